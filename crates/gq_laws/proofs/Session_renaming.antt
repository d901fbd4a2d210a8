-- Sessions that correspond one to one, where one place changes in both lists, and where a free number is given a new name.
use Rattle.std.proofs.Common.{◌≡◌, ◌≢◌, ℕ, zero, suc, ◌==◌, ◌||◌, inl, inr, Bool, true, false, cond, List, [], ◌∷◌, map, Option, Some, None, refl, ap, sym, ◌∙◌}
use Rattle.std.specs.Prelude.{is_some, option_map, slice_get}
use Rattle.std.proofs.lemmas.Bool.Decides.{eqb_tells}
use Rattle.gq_model.specs.machine.Scenario.{System}
use Rattle.gq_model.specs.machine.World.{Slot, Empty, Bytes, Pool, Link, Waiting, SlotId, In_leaf, In_session, In_object, Session, Request, Current, Leaf}
use Rattle.gq_model.specs.machine.World.{World}
use Rattle.gq_model.specs.machine.World.{session_at, slot_at, leaf_slot, session_slot, session_object}
use Rattle.gq_model.proofs.Small_facts.{none_some, equal_self}
use Rattle.gq_laws.specs.Session_links.{Naming, Leads, Waits, named, naming, naming_in, outline, outline_in, stance, stance_in, Belongs, AreLinked, links}
use Rattle.gq_laws.specs.Separation.{own_session, own_requests}
use Rattle.gq_laws.specs.Renamed.{renamed_slot, renamed_slot_id, renamed_current, renamed_leaf, renamed_session, renamed_request}
use Rattle.gq_laws.specs.internal.Corresponding.{own_at, Correspond, IsSame}

-- ONE PLACE CHANGES

mapped : (f : ℕ → ℕ) (o : Option Session) (t : Session) → option_map (renamed_session f) o ≡ Some t → (s : Session) × (o ≡ Some s)
mapped f None t e = absurd (none_some e)
mapped f (Some s) t e = (s, refl)

module _ (f : ℕ → ℕ) (a b c d : ℕ → Option Session) (h : Correspond f a b) (k : ℕ) (o : Option Session)
    (away : (j : ℕ) (u : Session) → a j ≡ Some u → j ≢ k → f j ≢ f k)
    (here : c k ≡ o) (others : (j : ℕ) → j ≢ k → c j ≡ a j)
    (here_b : d (f k) ≡ option_map (renamed_session f) o) (others_b : (m : ℕ) → m ≢ f k → d m ≡ b m) where
  new_there : (j : ℕ) (s : Session) → c j ≡ Some s → d (f j) ≡ Some (renamed_session f s)
  new_there j s e = elim (eqb_tells j k) [
    | inl t ↦ ap (λ j. d (f j)) t.1 ∙ (here_b ∙ ap (option_map (renamed_session f)) (sym here ∙ (ap c (sym t.1) ∙ e)))
    | inr t ↦ let old = sym (others j t.1) ∙ e in others_b (f j) (away j s old t.1) ∙ h.there j s old
  ]

  new_back : (m : ℕ) (t : Session) → d m ≡ Some t → (j : ℕ) × (s : Session) × (c j ≡ Some s) × (f j ≡ m)
  new_back m t e = elim (eqb_tells m (f k)) [
    | inl q ↦ let s = mapped f o t (sym here_b ∙ (ap d (sym q.1) ∙ e)) in (k, s.0, here ∙ s.1, sym q.1)
    | inr q ↦ let p = h.back m t (sym (others_b m q.1) ∙ e) in (p.0, p.1, others p.0 (λ r. q.1 (sym p.3 ∙ ap f r)) ∙ p.2, p.3)
  ]

  new_single : (i j : ℕ) (s t : Session) → c i ≡ Some s → c j ≡ Some t → f i ≡ f j → i ≡ j
  new_single i j s t e g r = elim (eqb_tells i k) [
    | inl p ↦ elim (eqb_tells j k) [
      | inl q ↦ p.1 ∙ sym q.1
      | inr q ↦ absurd (away j t (sym (others j q.1) ∙ g) q.1 (sym r ∙ ap f p.1))
    ]
    | inr p ↦ elim (eqb_tells j k) [
      | inl q ↦ absurd (away i s (sym (others i p.1) ∙ e) p.1 (r ∙ ap f q.1))
      | inr q ↦ h.single i j s t (sym (others i p.1) ∙ e) (sym (others j q.1) ∙ g) r
    ]
  ]

  -- both have the corresponding session at the k-th place, or none, and else what they had
  pub changed : Correspond f c d
  changed = record { there = new_there; back = new_back; single = new_single }

-- WHAT IS THE GROUP'S

pub own_there : (group : ℕ → Bool) (o : Option Session) (s : Session) → own_session group o ≡ Some s → o ≡ Some s
own_there group None s e = absurd (none_some e)
own_there group (Some u) s e = by (group u.client || group u.server) e
  where
    by : (b : Bool) → cond b (Some u) None ≡ Some s → Some u ≡ Some s
    by true e = e
    by false e = absurd (none_some e)

-- A NEW NAME FOR A FREE NUMBER

-- the k-th number has this name now
abbrev pub updated : (ℕ → ℕ) → ℕ → ℕ → ℕ → ℕ
updated f k m j = cond (j == k) m (f j)

pub updated_here : (f : ℕ → ℕ) (k m : ℕ) → updated f k m k ≡ m
updated_here f k m = ap (λ b. cond b m (f k)) (equal_self k)

module _ (system : System) (group : ℕ → Bool) (f : ℕ → ℕ) (w v : World) (k m : ℕ) (linked : AreLinked system (links w)) (free : session_at w k ≡ None)
    (h : IsSame group f w v) where
  abbrev g : ℕ → ℕ
  g = updated f k m

  same_name : (j : ℕ) → j ≢ k → g j ≡ f j
  same_name j ne = elim (eqb_tells j k) [ inl t ↦ absurd (ne t.1) | inr t ↦ ap (λ b. cond b m (f j)) t.0 ]

  taken : (j : ℕ) (s : Session) → outline_in (session_at w j) ≡ Some s → j ≢ k
  taken j s e q = none_some (sym (ap outline_in (ap (session_at w) q ∙ free)) ∙ e)

  slot_name : (slot : Slot) → ((n : Naming) → naming slot ≡ Some n → named n ≢ k) → renamed_slot g slot ≡ renamed_slot f slot
  slot_name Empty ne = refl
  slot_name (Bytes form n bytes) ne = refl
  slot_name (Pool n entries) ne = refl
  slot_name (Link j) ne = ap Link (same_name j (ne (Leads j) refl))
  slot_name (Waiting j) ne = ap Waiting (same_name j (ne (Waits j) refl))

  slot_names : (slots : List Slot) → ((i : ℕ) (n : Naming) → naming_in (slice_get slots i) ≡ Some n → named n ≢ k)
      → map (renamed_slot g) slots ≡ map (renamed_slot f) slots
  slot_names [] ne = refl
  slot_names (slot ∷ slots) ne = λ t. slot_name slot (ne zero) t ∷ slot_names slots (λ i. ne (suc i)) t

  at_slot_id : (q : SlotId) (n : Naming) → naming_in (slot_at w q) ≡ Some n → named n ≢ k
  at_slot_id q n e = let s = linked.named q n e in taken (named n) s.0 s.1

  current_name : (y : ℕ) (leaf : Leaf) (current : Option Current) → stance_in (slice_get w.leaves y) ≡ Some (stance leaf.phase current)
      → option_map (renamed_current g) current ≡ option_map (renamed_current f) current
  current_name y leaf None e = refl
  current_name y leaf (Some current) e =
      let s = linked.handles y leaf.phase current e in
      ap (λ n. Some (record { session = n; section = current.section })) (same_name current.session (taken current.session s.0 s.1))

  leaf_name : (y : ℕ) (o : Option Leaf) → slice_get w.leaves y ≡ o → option_map (renamed_leaf g) o ≡ option_map (renamed_leaf f) o
  leaf_name y None e = refl
  leaf_name y (Some leaf) e = λ t. Some (record leaf { current = current t; slots = slots t })
    where
      current : option_map (renamed_current g) leaf.current ≡ option_map (renamed_current f) leaf.current
      current = current_name y leaf leaf.current (ap stance_in e)

      slots : map (renamed_slot g) leaf.slots ≡ map (renamed_slot f) leaf.slots
      slots = slot_names leaf.slots (λ i n there. at_slot_id (In_leaf y i) n (ap (λ o. naming_in (leaf_slot o i)) e ∙ there))

  slot_id_name : (q : SlotId) (client : ℕ) → Belongs (links w) q client → renamed_slot_id g q ≡ renamed_slot_id f q
  slot_id_name (In_leaf x i) client b = refl
  slot_id_name (In_session j i) client b = ap (λ n. In_session n i) (same_name j (taken j b.0 b.1))
  slot_id_name (In_object j) client b = absurd b

  session_name : (j : ℕ) (s : Session) → session_at w j ≡ Some s → renamed_session g s ≡ renamed_session f s
  session_name j s e = λ t. record s { slot_id = slot_id t; object = object t; slots = slots t }
    where
      slot_id : renamed_slot_id g s.slot_id ≡ renamed_slot_id f s.slot_id
      slot_id = slot_id_name s.slot_id s.client (linked.belongs j (outline s) (ap outline_in e))

      object : renamed_slot g s.object ≡ renamed_slot f s.object
      object = slot_name s.object (λ n there. at_slot_id (In_object j) n (ap (λ o. naming_in (session_object o)) e ∙ there))

      slots : map (renamed_slot g) s.slots ≡ map (renamed_slot f) s.slots
      slots = slot_names s.slots (λ i n there. at_slot_id (In_session j i) n (ap (λ o. naming_in (session_slot o i)) e ∙ there))

  own_taken : (j : ℕ) (s : Session) → own_at group w.sessions j ≡ Some s → j ≢ k
  own_taken j s e = taken j (outline s) (ap outline_in (own_there group (session_at w j) s e))

  request_name : (r : Request) (rest : List Request) → map (renamed_request g) rest ≡ map (renamed_request f) rest → (o : Option Session)
      → own_session group (session_at w r.session) ≡ o
      → map (renamed_request g) (cond (is_some o) (r ∷ rest) rest) ≡ map (renamed_request f) (cond (is_some o) (r ∷ rest) rest)
  request_name r rest further None e = further
  request_name r rest further (Some s) e =
      λ t. record { session = same_name r.session (own_taken r.session s e) t; ask = r.ask } ∷ further t

  request_names : (rs : List Request) → map (renamed_request g) (own_requests group w rs) ≡ map (renamed_request f) (own_requests group w rs)
  request_names [] = refl
  request_names (r ∷ rs) = request_name r (own_requests group w rs) (request_names rs) (own_session group (session_at w r.session)) refl

  pub same_updated : IsSame group g w v
  same_updated =
      record {
        leaves = λ y inside. h.leaves y inside ∙ sym (leaf_name y (slice_get w.leaves y) refl);
        sessions = record {
          there = λ j s e. ap (own_at group v.sessions) (same_name j (own_taken j s e))
              ∙ (h.sessions.there j s e ∙ ap Some (sym (session_name j s (own_there group (session_at w j) s e))));
          back = λ n t e. let p = h.sessions.back n t e in (p.0, p.1, p.2, same_name p.0 (own_taken p.0 p.1 p.2) ∙ p.3);
          single = λ i j s t e q r.
              h.sessions.single i j s t e q (sym (same_name i (own_taken i s e)) ∙ (r ∙ same_name j (own_taken j t q)));
        };
        requests = h.requests ∙ sym (request_names w.requests);
      }
