-- The leaf in whose own slots a session stands, over however many sessions: uses have no cycle, so there is one.
use Rattle.std.proofs.Common.{◌≡◌, ◌⊎◌, inl, inr, ℕ, zero, suc, ◌+◌, true, false, List, [], ◌∷◌, length, Option, Some, None, refl, ap, sym, ◌∙◌, subst, arith}
use Rattle.std.proofs.lemmas.Option.{slice_get_within}
use Rattle.gq_model.specs.machine.Scenario.{System}
use Rattle.gq_model.specs.machine.World.{SlotId, In_leaf, In_session, In_object, Session, World, session_at}
use Rattle.gq_model.specs.rules.Resolve.{cycle_fault}
use Rattle.gq_model.proofs.Small_facts.{some_same}
use Rattle.gq_laws.specs.Session_links.{Belongs, IsLinkedWorld, links, outline, outline_in}
use Rattle.gq_laws.proofs.Outside_step_untouched.{outlined}
use Rattle.gq_laws.proofs.verified_programs.Use_chains.{Chain, Uses, chain_short}
use Rattle.gq_determined.specs.internal.Threads.{Starts}
use Rattle.gq_determined.proofs.from_rest.Opened_places.{IsPlace}
use Rattle.gq_determined.proofs.thread_positions.Single_thread_position.{IsOpened, root_at}
use Rattle.gq_determined.proofs.thread_runs.Opened_session_owner.{there_uses}
use Rattle.gq_determined.proofs.thread_runs.Suitable_session_slots.{AllSuit}

-- over at most n sessions
abbrev leaf_above : (ℕ → ℕ) → Option Session → ℕ
leaf_above above None = 0
leaf_above above (Some s) = root_at (λ y. y) above s.slot_id

abbrev leaf_within : ℕ → World → ℕ → ℕ
leaf_within zero w k = 0
leaf_within (suc n) w k = leaf_above (λ j. leaf_within n w j) (session_at w k)

-- there are no more than leaves
abbrev pub leaf_of : System → World → ℕ → ℕ
leaf_of u w k = leaf_within (suc (length u.components)) w k

-- a session stands below an own slot, over at most n sessions
abbrev IsBelow : ℕ → World → SlotId → Type 0
IsBelow n w (In_leaf y a) = Unit {0}
IsBelow zero w (In_session j a) = ⊥
IsBelow (suc n) w (In_session j a) = (t : Session) × (session_at w j ≡ Some t) × IsBelow n w t.slot_id
IsBelow n w (In_object j) = ⊥

module _ (u : System) (acyclic : cycle_fault u 0 u.components ≡ None) (w : World) (linked : IsLinkedWorld u w) (places : AllSuit (IsPlace u) w) where
  -- a client uses its server
  pub uses : (k : ℕ) (s : Session) → session_at w k ≡ Some s → Uses u s.client s.server
  uses k s at = by s.slot_id (places.at k s at) (linked.belongs k (outline s) (ap outline_in at))
    where
      by : (q : SlotId) → IsPlace u q s.client s.server → Belongs (links w) q s.client → Uses u s.client s.server
      by (In_leaf y a) p b = (p.0, p.1, there_uses u s.server p.0 false p.2)
      by (In_session j a) p b = (p.0, p.1, there_uses u s.server p.0 true p.2)
      by (In_object j) p b = absurd b

  -- a slot of a client is below an own slot, or it is below as many sessions as there are uses in a chain
  below_or : (n : ℕ) (q : SlotId) (client : ℕ) (rest : List ℕ) → Belongs (links w) q client → Chain u client rest
      → IsBelow n w q ⊎ ((x : ℕ) × (more : List ℕ) × Chain u x more × (length more ≡ suc n + length rest))
  below_or n (In_leaf y a) client rest b chain = inl tt
  below_or n (In_object j) client rest b chain = absurd b
  below_or zero (In_session j a) client rest b chain =
      let s = outlined (session_at w j) b.0 b.1 in
      let server : s.0.server ≡ client = ap (λ (s : Session). s.server) s.2 ∙ b.3 in
      inr (s.0.client, client ∷ rest, (subst (Uses u s.0.client) server (uses j s.0 s.1), chain), omega arith)
  below_or (suc n) (In_session j a) client rest b chain =
      let s = outlined (session_at w j) b.0 b.1 in
      let server : s.0.server ≡ client = ap (λ (s : Session). s.server) s.2 ∙ b.3 in
      elim (below_or n s.0.slot_id s.0.client (client ∷ rest) (linked.belongs j (outline s.0) (ap outline_in s.1))
      (subst (Uses u s.0.client) server (uses j s.0 s.1), chain)) [
        | inl h ↦ inl (s.0, s.1, h)
        | inr r ↦ inr (r.0, r.1, r.2, (let long = r.3 in omega (arith, long)))
      ]

  all_below : (k : ℕ) (s : Session) → session_at w k ≡ Some s → IsBelow (length u.components) w s.slot_id
  all_below k s at =
      let used = uses k s at in
      elim (below_or (length u.components) s.slot_id s.client [] (linked.belongs k (outline s) (ap outline_in at))
      (slice_get_within u.components s.client used.0 used.1)) [
        | inl h ↦ h
        | inr r ↦ (let short = chain_short u acyclic r.0 r.1 r.2 in let long = r.3 in absurd (omega (arith, short, long)))
      ]

  -- over more sessions it is the same leaf
  same_leaf : (n : ℕ) (q : SlotId) → IsBelow n w q → root_at (λ y. y) (λ j. leaf_within (suc n) w j) q ≡ root_at (λ y. y) (λ j. leaf_within n w j) q
  same_leaf n (In_leaf y a) h = refl
  same_leaf zero (In_session j a) h = absurd h
  same_leaf (suc n) (In_session j a) h =
      ap (leaf_above (λ j. leaf_within (suc n) w j)) h.1 ∙ (same_leaf n h.0.slot_id h.2 ∙ sym (ap (leaf_above (λ j. leaf_within n w j)) h.1))
  same_leaf n (In_object j) h = absurd h

  -- it is that of its slot
  pub leaf_is : (k : ℕ) (s : Session) → session_at w k ≡ Some s → leaf_of u w k ≡ root_at (λ y. y) (leaf_of u w) s.slot_id
  leaf_is k s at =
      let n = length u.components in
      ap (leaf_above (λ j. leaf_within n w j)) at ∙ sym (same_leaf n s.slot_id (all_below k s at))

  -- and the session was opened for it
  opened_for : (n : ℕ) (q : SlotId) (client server : ℕ) → IsBelow n w q → Belongs (links w) q client → IsPlace u q client server
      → (m : ℕ) × (z : ℕ) × Starts u m z server × (root_at (λ y. y) (λ j. leaf_within n w j) q ≡ z)
  opened_for n (In_leaf y a) client server h b p = (0, client, (p.0, p.1, p.2), b)
  opened_for zero (In_session j a) client server h b p = absurd h
  opened_for (suc n) (In_session j a) client server h b p =
      let s = outlined (session_at w j) b.0 b.1 in
      let same : s.0 ≡ h.0 = some_same (sym s.1 ∙ h.1) in
      let to : h.0.server ≡ client = ap (λ (s : Session). s.server) (sym same) ∙ (ap (λ (s : Session). s.server) s.2 ∙ b.3) in
      let r = opened_for n h.0.slot_id h.0.client h.0.server h.2 (linked.belongs j (outline h.0) (ap outline_in h.1)) (places.at j h.0 h.1) in (
        suc r.0,
        r.1,
        (client, p.0, p.1, p.2, subst (Starts u r.0 r.1) to r.2),
        ap (leaf_above (λ j. leaf_within n w j)) h.1 ∙ r.3,
      )
  opened_for n (In_object j) client server h b p = absurd h

  pub are_opened : (k : ℕ) (s : Session) → session_at w k ≡ Some s → IsOpened u (λ y. y) (leaf_of u w) s.slot_id s.client s.server
  are_opened k s at =
      let n = length u.components in
      let below = all_below k s at in
      let r = opened_for n s.slot_id s.client s.server below (linked.belongs k (outline s) (ap outline_in at)) (places.at k s at) in
      record {
        uses = uses k s at;
        n = r.0;
        z = r.1;
        starts = r.2;
        is = same_leaf n s.slot_id below ∙ r.3;
      }
