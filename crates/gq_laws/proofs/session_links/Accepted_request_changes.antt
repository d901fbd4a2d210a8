-- What the acceptance of a request changes of sessions, slots, requests and current requests.
use Rattle.std.proofs.Common.{◌≡◌, ◌≢◌, ℕ, suc, ◌⊎◌, inl, inr, true, false, Option, Some, None, refl, ap, sym, ◌∙◌, subst, arith}
use Rattle.std.specs.Prelude.{slice_get}
use Rattle.std.proofs.lemmas.Bool.Decides.{eqb_tells}
use Rattle.gq_model.specs.machine.Scenario.{System}
use Rattle.gq_model.specs.machine.Routes.{server_of}
use Rattle.gq_model.specs.machine.World.{SlotId, In_leaf, In_session, In_object, Session, Current}
use Rattle.gq_model.specs.declared.phase.Phase.{Phase}
use Rattle.gq_model.specs.declared.phase.Phase.TheVariants.{Blocked, Serving, Handling}
use Rattle.gq_laws.specs.Shapes.{Each}
use Rattle.gq_laws.specs.Session_links.{Waits, named, Stance, stance, Links, requests_of, at_current, pending_of, Stands, Belongs, IsBytes, IsRouted, IsAsked}
use Rattle.gq_laws.specs.Session_links.{IsAt}
use Rattle.gq_laws.specs.Session_links.{Handles, Fits, AreLinked}
use Rattle.gq_laws.proofs.session_links.Linked_after_change.{Changes}
use Rattle.gq_model.proofs.Small_facts.{some_same}
use Rattle.gq_laws.proofs.session_links.Asked_request_changes.{apart, at_server, each_map, is_blocked, names_apart, none_of, one_none, one_one, same_current}
use Rattle.gq_laws.proofs.session_links.Asked_request_changes.{same_phase}
use Rattle.std.proofs.lemmas.Bool.{true≢false}
use Rattle.gq_laws.proofs.step_shapes.Step_end_worlds.{handling_blocked}

-- ACCEPTANCE

-- the x-th leaf, which serves, takes a request of session k as its current one
pub record Accepts (l m : Links) (x k : ℕ) (t s : Session) (current : Current) : Type 0 where
  pub serving : l.stances x ≡ Some (stance Serving None)
  pub was : l.sessions k ≡ Some t
  pub server : t.server ≡ x
  pub kept_client : t.client ≡ s.client
  pub kept_slot_id : t.slot_id ≡ s.slot_id
  pub kept_server : t.server ≡ s.server
  pub kept_service : t.service ≡ s.service
  pub accepted : s.accepted ≡ true
  pub object : IsBytes s.object
  pub current_session : current.session ≡ k
  pub at_level : IsAt current.section s.level
  pub taken : requests_of k l.requests ≡ suc (requests_of k m.requests)
  pub counts : (j : ℕ) → j ≢ k → requests_of j m.requests ≡ requests_of j l.requests
  pub asked : Each (IsAsked l) m.requests
  pub slots : (r : SlotId) → m.slots r ≡ l.slots r
  pub session : m.sessions k ≡ Some s
  pub sessions : (j : ℕ) → j ≢ k → m.sessions j ≡ l.sessions j
  pub stance_x : m.stances x ≡ Some (stance Handling (Some current))
  pub stances : (y : ℕ) → y ≢ x → m.stances y ≡ l.stances y

module _ (system : System) (l m : Links) (x k : ℕ) (t s : Session) (current : Current) (h : AreLinked system l) (a : Accepts l m x k t s current) where
  taken_it : (P : Session → Type 0) → P s → (u : Session) → m.sessions k ≡ Some u → P u
  taken_it P p u e = subst P (some_same (sym a.session ∙ e)) p

  -- its slot waits, and this was its one request
  was_waiting : (l.slots t.slot_id ≡ Some (Waits k)) × (requests_of k m.requests ≡ 0)
  was_waiting = go (h.stands k t a.was)
    where
      go : Stands l k t → (l.slots t.slot_id ≡ Some (Waits k)) × (requests_of k m.requests ≡ 0)
      go (inl u) = let none = u.2 in let taken = a.taken in absurd (omega (arith, none, taken))
      go (inr u) = let one = u.1 in let taken = a.taken in (u.0, omega (arith, one, taken))

  taken_slot : m.slots s.slot_id ≡ Some (Waits k)
  taken_slot = a.slots s.slot_id ∙ ap l.slots (sym a.kept_slot_id) ∙ was_waiting.0

  taken_current : at_current k (m.stances s.server) ≡ 1
  taken_current = ap (λ y. at_current k (m.stances y)) (sym a.kept_server ∙ a.server) ∙ ap (at_current k) a.stance_x
      ∙ one_one current.session k a.current_session

  taken_pending : pending_of m k s ≡ 1
  taken_pending = let none = was_waiting.1 in let one = taken_current in omega (arith, none, one)

  taken_all_current : (j : ℕ) → j ≢ k → (y : ℕ) → at_current j (m.stances y) ≡ at_current j (l.stances y)
  taken_all_current j ne y = elim (eqb_tells y x) [ inl e ↦ here e.1 | inr e ↦ ap (at_current j) (a.stances y e.1) ]
    where
      here : y ≡ x → at_current j (m.stances y) ≡ at_current j (l.stances y)
      here e =
          ap (λ y. at_current j (m.stances y)) e ∙ ap (at_current j) a.stance_x ∙ one_none current.session j (λ same. ne (sym same ∙ a.current_session))
          ∙ sym (ap (at_current j) a.serving) ∙ ap (λ y. at_current j (l.stances y)) (sym e)

  taken_waits : (current : Option Current) × (m.stances s.client ≡ Some (stance Blocked current))
  taken_waits =
      let g = h.waits k t a.was was_waiting.0 in
      let ne = is_blocked system l h k t a.was was_waiting.0 x Serving None a.serving (λ e. serves e) in
      (g.0, ap m.stances (sym a.kept_client) ∙ a.stances t.client ne ∙ g.1)
    where
      serves : Serving ≡ Blocked → ⊥
      serves e = cc

  serving_ne : Serving ≢ Blocked
  serving_ne e = cc

  taken_asked : Each (IsAsked m) m.requests
  taken_asked = each_map (λ r. IsAsked l r × (r.session ≢ k)) (IsAsked m) (λ r p. (p.0.0, a.sessions r.session p.1 ∙ p.0.1, p.0.2)) m.requests
      (none_of (IsAsked l) k m.requests was_waiting.1 a.asked)

  taken_handles : (y : ℕ) (p : Phase) (g : Current) → m.stances y ≡ Some (stance p (Some g)) → Handles m y g
  taken_handles y p g at = elim (eqb_tells y x) [ inl e ↦ here e.1 | inr e ↦ there e.1 ]
    where
      current_same : current ≡ g → Handles m x current → Handles m x g
      current_same e t = subst (Handles m x) e t

      here : y ≡ x → Handles m y g
      here e =
          let same = some_same (same_current (sym a.stance_x ∙ ap m.stances (sym e) ∙ at)) in
          subst (λ y. Handles m y g) (sym e) (current_same same (
            s,
            ap m.sessions a.current_session ∙ a.session,
            sym a.kept_server
                ∙ a.server,
            a.accepted,
            a.at_level,
          ))

      there : y ≢ x → Handles m y g
      there ne =
          let was = sym (a.stances y ne) ∙ at in
          let t' = h.handles y p g was in
          let other : g.session ≢ k = λ same. ne (sym (at_server system l h k t a.was y p g was same) ∙ a.server) in
          (t'.0, a.sessions g.session other ∙ t'.1, t'.2, t'.3, t'.4)

  taken_fits : (y : ℕ) (u : Stance) → m.stances y ≡ Some u → Fits u.phase u.current
  taken_fits y u at = elim (eqb_tells y x) [
    | inl e ↦ subst (λ (t : Stance). Fits t.phase t.current) (some_same (sym a.stance_x ∙ ap m.stances (sym e.1) ∙ at)) tt
    | inr e ↦ h.fits y u (sym (a.stances y e.1) ∙ at)
  ]

  taken_blocked : (y : ℕ) (g : Option Current) → m.stances y ≡ Some (stance Blocked g)
      → ((s : Session) × (m.sessions k ≡ Some s) × (s.client ≡ y) × (m.slots s.slot_id ≡ Some (Waits k)))
      ⊎ ((j : ℕ) × (t : Session) × (j ≢ k) × (l.sessions j ≡ Some t) × (t.client ≡ y) × (l.slots t.slot_id ≡ Some (Waits j)))
  taken_blocked y g at = elim (eqb_tells y x) [
    | inl e ↦ absurd (handling_blocked (same_phase (sym a.stance_x ∙ ap m.stances (sym e.1) ∙ at)))
    | inr e ↦ there e.1
  ]
    where
      there : y ≢ x → ((s : Session) × (m.sessions k ≡ Some s) × (s.client ≡ y) × (m.slots s.slot_id ≡ Some (Waits k)))
          ⊎ ((j : ℕ) × (t : Session) × (j ≢ k) × (l.sessions j ≡ Some t) × (t.client ≡ y) × (l.slots t.slot_id ≡ Some (Waits j)))
      there ne =
          let b = h.blocked y g (sym (a.stances y ne) ∙ at) in
          elim (eqb_tells b.0 k) [
            | inl e ↦ (let same = some_same (sym a.was ∙ ap l.sessions (sym e.1) ∙ b.2) in
                inl (s, a.session, sym a.kept_client ∙ ap (λ (s : Session). s.client) same ∙ b.3, taken_slot))
            | inr e ↦ inr (b.0, b.1, e.1, b.2, b.3, b.4)
          ]

  -- its client's slot is still its client's
  taken_belongs : Belongs m t.slot_id t.client
  taken_belongs = go t.slot_id (h.belongs k t a.was)
    where
      go : (q : SlotId) → Belongs l q t.client → Belongs m q t.client
      go (In_leaf y i) b = b
      go (In_object j) b = b
      go (In_session j i) b =
          elim (eqb_tells j k) [
            | inl e ↦ (
              s,
              ap m.sessions e.1 ∙ a.session,
              a.accepted,
              sym a.kept_server
                  ∙ ap (λ (s : Session). s.server) (some_same (sym a.was ∙ ap l.sessions (sym e.1) ∙ b.1)) ∙ b.3,
            )
            | inr e ↦ (b.0, a.sessions j e.1 ∙ b.1, b.2, b.3)
          ]

  taken_routed : IsRouted system s
  taken_routed =
      let r = h.routed k t a.was in
      (r.0, ap (λ c. slice_get system.components c) (sym a.kept_client) ∙ r.1, ap (server_of system r.0) (sym a.kept_service) ∙ r.2 ∙ ap Some a.kept_server)

  pub accepts_changes : Changes system l m k s.slot_id
  accepts_changes =
      record {
        sessions = a.sessions;
        slots = λ r ne. a.slots r;
        counts = a.counts;
        all_current = taken_all_current;
        elsewhere = λ j u ne e same. apart system l h k t a.was j u ne e (same ∙ sym a.kept_slot_id);
        names = λ r n ne e. names_apart system l h k t a.was r n (λ same. ne (same ∙ a.kept_slot_id)) e;
        owns = inl (λ u e yes. (s, a.session, a.accepted, sym a.kept_server ∙ ap (λ (s : Session). s.server) (some_same (sym a.was ∙ e))));
        at_slot_id = λ n e. (s, ap (λ n. m.sessions (named n)) (some_same (sym e ∙ taken_slot)) ∙ a.session, refl);
        stands = taken_it (Stands m k) (inr (taken_slot, taken_pending));
        belongs = taken_it (λ s. Belongs m s.slot_id s.client)
            (subst (λ q. Belongs m q s.client) a.kept_slot_id (subst (Belongs m t.slot_id) a.kept_client taken_belongs));
        routed = taken_it (IsRouted system) taken_routed;
        opens = taken_it (λ s. s.accepted ≡ false → s.level ≡ 0) (λ no. absurd (true≢false (sym a.accepted ∙ no)));
        objects = taken_it (λ s. s.accepted ≡ true → IsBytes s.object) (λ yes. a.object);
        waits = taken_it (λ s. m.slots s.slot_id ≡ Some (Waits k) → (current : Option Current) × (m.stances s.client ≡ Some (stance Blocked current)))
            (λ w. taken_waits);
        alone = taken_it (λ s. m.slots s.slot_id ≡ Some (Waits k) → (j : ℕ) (t : Session) → j ≢ k → l.sessions j ≡ Some t → l.slots t.slot_id ≡ Some (Waits j)
            → t.client ≢ s.client) (λ w j u ne e v same. ne (h.alone j k u t e a.was v was_waiting.0 (same ∙ sym a.kept_client)));
        others_wait = λ j u ne e v. a.stances u.client (is_blocked system l h j u e v x Serving None a.serving serving_ne);
        blocked = taken_blocked;
        asked = taken_asked;
        handles = taken_handles;
        fits = taken_fits;
      }
