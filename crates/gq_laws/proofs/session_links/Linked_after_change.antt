-- A change of one session, its slot, its requests and the leaves that take part keeps sessions, slots, requests and current requests in agreement.
use Rattle.std.proofs.Common.{◌≡◌, ◌≢◌, ℕ, ◌+◌, ◌⊎◌, inl, inr, true, false, Option, Some, None, sym, ◌∙◌, subst, refl}
use Rattle.std.proofs.lemmas.Bool.Decides.{eqb_tells}
use Rattle.gq_model.specs.machine.Scenario.{System}
use Rattle.gq_model.specs.machine.World.{SlotId, In_leaf, In_session, In_object, Session, Current}
use Rattle.gq_model.specs.declared.phase.Phase.{Phase}
use Rattle.gq_model.specs.declared.phase.Phase.TheVariants.{Pending, Running, Blocked, Serving, Handling, Exited}
use Rattle.gq_laws.specs.Shapes.{Each}
use Rattle.gq_laws.specs.Session_links.{Naming, Waits, named, Stance, stance, Links, requests_of, at_current, pending_of, Stands, Belongs, IsBytes, IsRouted}
use Rattle.gq_laws.specs.Session_links.{IsAsked}
use Rattle.gq_laws.specs.Session_links.{Handles, Fits, AreLinked}
use Rattle.gq_model.proofs.Small_facts.{none_some}

-- a leaf with a current request that is not blocked handles it
pub handling_with : (phase : Phase) (g : Current) → Fits phase (Some g) → phase ≢ Blocked → phase ≡ Handling
handling_with Pending g f ne = absurd f
handling_with Running g f ne = absurd f
handling_with Blocked g f ne = absurd (ne refl)
handling_with Serving g f ne = absurd f
handling_with Handling g f ne = refl
handling_with Exited g f ne = absurd f

-- ONE SESSION CHANGES

-- the k-th session changes, with its slot at q: others, and the leaves that wait for others, stand as they did
pub record Changes (system : System) (l m : Links) (k : ℕ) (q : SlotId) : Type 0 where
  pub sessions : (j : ℕ) → j ≢ k → m.sessions j ≡ l.sessions j
  pub slots : (r : SlotId) → r ≢ q → m.slots r ≡ l.slots r
  pub counts : (j : ℕ) → j ≢ k → requests_of j m.requests ≡ requests_of j l.requests
  pub all_current : (j : ℕ) → j ≢ k → (y : ℕ) → at_current j (m.stances y) ≡ at_current j (l.stances y)
  pub elsewhere : (j : ℕ) (t : Session) → j ≢ k → l.sessions j ≡ Some t → t.slot_id ≢ q
  pub names : (r : SlotId) (n : Naming) → r ≢ q → l.slots r ≡ Some n → named n ≢ k
  -- it stays a client's, or no slot of its names a session
  pub owns : ((t : Session) → l.sessions k ≡ Some t → t.accepted ≡ true → (u : Session) × (m.sessions k ≡ Some u) × (u.accepted ≡ true) × (u.server ≡ t.server))
      ⊎ ((i : ℕ) → l.slots (In_session k i) ≡ None)
  pub at_slot_id : (n : Naming) → m.slots q ≡ Some n → (s : Session) × (m.sessions (named n) ≡ Some s) × (s.slot_id ≡ q)
  -- of the session itself
  pub stands : (s : Session) → m.sessions k ≡ Some s → Stands m k s
  pub belongs : (s : Session) → m.sessions k ≡ Some s → Belongs m s.slot_id s.client
  pub routed : (s : Session) → m.sessions k ≡ Some s → IsRouted system s
  pub opens : (s : Session) → m.sessions k ≡ Some s → s.accepted ≡ false → s.level ≡ 0
  pub objects : (s : Session) → m.sessions k ≡ Some s → s.accepted ≡ true → IsBytes s.object
  pub waits : (s : Session) → m.sessions k ≡ Some s → m.slots s.slot_id ≡ Some (Waits k)
      → (current : Option Current) × (m.stances s.client ≡ Some (stance Blocked current))
  pub alone : (s : Session) → m.sessions k ≡ Some s → m.slots s.slot_id ≡ Some (Waits k) → (j : ℕ) (t : Session) → j ≢ k → l.sessions j ≡ Some t
      → l.slots t.slot_id ≡ Some (Waits j) → t.client ≢ s.client
  -- of the leaves and the requests
  pub others_wait : (j : ℕ) (t : Session) → j ≢ k → l.sessions j ≡ Some t → l.slots t.slot_id ≡ Some (Waits j) → m.stances t.client ≡ l.stances t.client
  pub blocked : (y : ℕ) (current : Option Current) → m.stances y ≡ Some (stance Blocked current)
      → ((s : Session) × (m.sessions k ≡ Some s) × (s.client ≡ y) × (m.slots s.slot_id ≡ Some (Waits k)))
      ⊎ ((j : ℕ) × (t : Session) × (j ≢ k) × (l.sessions j ≡ Some t) × (t.client ≡ y) × (l.slots t.slot_id ≡ Some (Waits j)))
  pub asked : Each (IsAsked m) m.requests
  pub handles : (x : ℕ) (phase : Phase) (current : Current) → m.stances x ≡ Some (stance phase (Some current)) → Handles m x current
  pub fits : (x : ℕ) (t : Stance) → m.stances x ≡ Some t → Fits t.phase t.current

module _ (system : System) (l m : Links) (k : ℕ) (q : SlotId) (h : AreLinked system l) (c : Changes system l m k q) where
  -- another session is there before, and its slot says what it said
  before : (j : ℕ) (t : Session) → j ≢ k → m.sessions j ≡ Some t → l.sessions j ≡ Some t
  before j t ne e = sym (c.sessions j ne) ∙ e

  slot_of : (j : ℕ) (t : Session) → j ≢ k → m.sessions j ≡ Some t → m.slots t.slot_id ≡ l.slots t.slot_id
  slot_of j t ne e = c.slots t.slot_id (c.elsewhere j t ne (before j t ne e))

  other_stands : (j : ℕ) (t : Session) → j ≢ k → m.sessions j ≡ Some t → Stands m j t
  other_stands j t ne e = go (h.stands j t (before j t ne e))
    where
      count : pending_of m j t ≡ pending_of l j t
      count = (λ i. c.counts j ne i + c.all_current j ne t.server i)

      go : Stands l j t → Stands m j t
      go (inl s) = inl (slot_of j t ne e ∙ s.0, s.1, count ∙ s.2)
      go (inr s) = inr (slot_of j t ne e ∙ s.0, count ∙ s.1)

  -- a slot of another session's client is still a client's
  still_belongs : (r : SlotId) (client : ℕ) (n : Naming) → l.slots r ≡ Some n → Belongs l r client → Belongs m r client
  still_belongs (In_leaf x i) client n e b = b
  still_belongs (In_object j) client n e b = b
  still_belongs (In_session j i) client n e b = elim (eqb_tells j k) [ inl same ↦ here same.1 c.owns | inr other ↦ (b.0, c.sessions j other.1 ∙ b.1, b.2, b.3) ]
    where
      here : j ≡ k → ((t : Session) → l.sessions k ≡ Some t → t.accepted ≡ true
          → (u : Session) × (m.sessions k ≡ Some u) × (u.accepted ≡ true) × (u.server ≡ t.server)) ⊎ ((i : ℕ) → l.slots (In_session k i) ≡ None)
          → Belongs m (In_session j i) client
      here same (inl owns) = let u = owns b.0 (subst (λ j. l.sessions j ≡ Some b.0) same b.1) b.2 in
          (u.0, subst (λ j. m.sessions j ≡ Some u.0) (sym same) u.1, u.2, u.3 ∙ b.3)
      here same (inr bare) = absurd (none_some (sym (bare i) ∙ subst (λ j. l.slots (In_session j i) ≡ Some n) same e))

  named_slot : (j : ℕ) (t : Session) → Stands l j t → (n : Naming) × (l.slots t.slot_id ≡ Some n)
  named_slot j t (inl s) = (_, s.0)
  named_slot j t (inr s) = (_, s.0)

  other_belongs : (j : ℕ) (t : Session) → j ≢ k → m.sessions j ≡ Some t → Belongs m t.slot_id t.client
  other_belongs j t ne e =
      let was = before j t ne e in
      let n = named_slot j t (h.stands j t was) in
      still_belongs t.slot_id t.client n.0 n.1 (h.belongs j t was)

  -- a fact of the session itself and of each other is one of all
  by_number : (P : ℕ → Session → Type 0) → ((s : Session) → m.sessions k ≡ Some s → P k s) → ((j : ℕ) (t : Session) → j ≢ k → m.sessions j ≡ Some t → P j t)
      → (j : ℕ) (t : Session) → m.sessions j ≡ Some t → P j t
  by_number P own other j t e = elim (eqb_tells j k) [
    | inl same ↦ subst (λ i. P i t) (sym same.1) (own t (subst (λ i. m.sessions i ≡ Some t) same.1 e))
    | inr ne ↦ other j t ne.1 e
  ]

  all_waits : (j : ℕ) (t : Session) → m.sessions j ≡ Some t → m.slots t.slot_id ≡ Some (Waits j)
      → (current : Option Current) × (m.stances t.client ≡ Some (stance Blocked current))
  all_waits = by_number
      (λ j t. m.slots t.slot_id ≡ Some (Waits j) → (current : Option Current) × (m.stances t.client ≡ Some (stance Blocked current))) c.waits other
    where
      other : (j : ℕ) (t : Session) → j ≢ k → m.sessions j ≡ Some t → m.slots t.slot_id ≡ Some (Waits j)
          → (current : Option Current) × (m.stances t.client ≡ Some (stance Blocked current))
      other j t ne e w =
          let was = before j t ne e in
          let waited = sym (slot_of j t ne e) ∙ w in
          let g = h.waits j t was waited in
          (g.0, c.others_wait j t ne was waited ∙ g.1)

  all_alone : (i j : ℕ) (s t : Session) → m.sessions i ≡ Some s → m.sessions j ≡ Some t → m.slots s.slot_id ≡ Some (Waits i) → m.slots t.slot_id ≡ Some
      (Waits j)
      → s.client ≡ t.client → i ≡ j
  all_alone i j s t is js iw jw same = elim (eqb_tells i k) [ inl a ↦ left a.1 | inr a ↦ right a.1 ]
    where
      at_k : (i : ℕ) (s : Session) → i ≡ k → m.sessions i ≡ Some s → m.slots s.slot_id ≡ Some (Waits i)
          → (m.sessions k ≡ Some s) × (m.slots s.slot_id ≡ Some (Waits k))
      at_k i s e a b = (subst (λ i. m.sessions i ≡ Some s) e a, subst (λ i. m.slots s.slot_id ≡ Some (Waits i)) e b)

      left : i ≡ k → i ≡ j
      left a = let own = at_k i s a is iw in elim (eqb_tells j k) [
        | inl b ↦ a ∙ sym b.1
        | inr b ↦ absurd (c.alone s own.0 own.1 j t b.1 (before j t b.1 js) (sym (slot_of j t b.1 js) ∙ jw) (sym same))
      ]

      right : i ≢ k → i ≡ j
      right a =
          elim (eqb_tells j k) [
            | inl b ↦ (let own = at_k j t b.1 js jw in
                absurd (c.alone t own.0 own.1 i s a (before i s a is) (sym (slot_of i s a is) ∙ iw) same))
            | inr b ↦ h.alone i j s t (before i s a is) (before j t b.1 js) (sym (slot_of i s a is) ∙ iw) (sym (slot_of j t b.1 js) ∙ jw) same
          ]

  all_blocked : (y : ℕ) (current : Option Current) → m.stances y ≡ Some (stance Blocked current)
      → (j : ℕ) × (s : Session) × (m.sessions j ≡ Some s) × (s.client ≡ y) × (m.slots s.slot_id ≡ Some (Waits j))
  all_blocked y current e = elim (c.blocked y current e) [
    | inl s ↦ (k, s.0, s.1, s.2, s.3)
    | inr t ↦ (t.0, t.1, c.sessions t.0 t.2 ∙ t.3, t.4, c.slots t.1.slot_id (c.elsewhere t.0 t.1 t.2 t.3) ∙ t.5)
  ]

module _ (same_slot_id : (p q : SlotId) → (p ≡ q) ⊎ (p ≢ q)) (system : System) (l m : Links) (k : ℕ) (q : SlotId) (h : AreLinked system l)
    (c : Changes system l m k q) where
  all_named : (r : SlotId) (n : Naming) → m.slots r ≡ Some n → (s : Session) × (m.sessions (named n) ≡ Some s) × (s.slot_id ≡ r)
  all_named r n e = elim (same_slot_id r q) [ inl same ↦ at_q same | inr ne ↦ other ne ]
    where
      at_q : r ≡ q → (s : Session) × (m.sessions (named n) ≡ Some s) × (s.slot_id ≡ r)
      at_q same = let s = c.at_slot_id n (subst (λ r. m.slots r ≡ Some n) same e) in (s.0, s.1, s.2 ∙ sym same)

      other : r ≢ q → (s : Session) × (m.sessions (named n) ≡ Some s) × (s.slot_id ≡ r)
      other ne =
          let was = sym (c.slots r ne) ∙ e in
          let s = h.named r n was in
          (s.0, c.sessions (named n) (c.names r n ne was) ∙ s.1, s.2)

  pub changes_linked : AreLinked system m
  changes_linked =
      record {
        stands = by_number system l m k q h c (λ j t. Stands m j t) c.stands (other_stands system l m k q h c);
        named = all_named;
        belongs = by_number system l m k q h c (λ j t. Belongs m t.slot_id t.client) c.belongs (other_belongs system l m k q h c);
        routed = by_number system l m k q h c (λ j t. IsRouted system t) c.routed (λ j t ne e. h.routed j t (before system l m k q h c j t ne e));
        opens = by_number system l m k q h c (λ j t. t.accepted ≡ false → t.level ≡ 0) c.opens (λ j t ne e. h.opens j t (before system l m k q h c j t ne e));
        objects = by_number system l m k q h c (λ j t. t.accepted ≡ true
            → IsBytes t.object) c.objects (λ j t ne e. h.objects j t (before system l m k q h c j t ne e));
        asked = c.asked;
        handles = c.handles;
        fits = c.fits;
        waits = all_waits system l m k q h c;
        alone = all_alone system l m k q h c;
        blocked = all_blocked system l m k q h c;
      }
