-- What a written leaf, slot or session changes of slots, sessions, current requests and phases.
use Rattle.std.proofs.Common.{◌≡◌, ◌≢◌, ℕ, zero, suc, ◌⊎◌, inl, inr, List, [], ◌∷◌, Option, Some, None, refl, ap, sym, ◌∙◌}
use Rattle.std.specs.Prelude.{slice_get, slice_set}
use Rattle.std.proofs.lemmas.Bool.Decides.{eqb_tells}
use Rattle.gq_model.specs.machine.World.{Slot, SlotId, In_leaf, In_session, In_object, Session, Leaf, World, joined, session_at, with_leaf, with_session}
use Rattle.gq_model.specs.machine.World.{leaf_slot, session_slot, session_object, slot_at, put_leaf_slot, put_session_slot, put_object, with_slot}
use Rattle.gq_laws.specs.Session_links.{shape, outline, outline_in, stance, stance_in}
use Rattle.gq_model.proofs.Small_facts.{some_same, none_some}

-- LISTS

pub set_here : {A : Type 0} (items : List A) (i : ℕ) (a b : A) → slice_get items i ≡ Some b → slice_get (slice_set items i a) i ≡ Some a
set_here [] i a b e = absurd (none_some e)
set_here (c ∷ rest) zero a b e = refl
set_here (c ∷ rest) (suc i) a b e = set_here rest i a b e

pub set_else : {A : Type 0} (items : List A) (i j : ℕ) (a : A) → j ≢ i → slice_get (slice_set items i a) j ≡ slice_get items j
set_else [] i j a ne = refl
set_else (c ∷ rest) zero zero a ne = absurd (ne refl)
set_else (c ∷ rest) zero (suc j) a ne = refl
set_else (c ∷ rest) (suc i) zero a ne = refl
set_else (c ∷ rest) (suc i) (suc j) a ne = set_else rest i j a (λ e. ne (ap suc e))

-- SPOTS

abbrev owner : SlotId → ℕ
owner (In_leaf x i) = x
owner (In_session k i) = k
owner (In_object k) = k

abbrev slot_number : SlotId → ℕ
slot_number (In_leaf x i) = i
slot_number (In_session k i) = i
slot_number (In_object k) = 0

pub same_slot_id : (p q : SlotId) → (p ≡ q) ⊎ (p ≢ q)
same_slot_id (In_leaf x i) (In_leaf y j) = elim (eqb_tells x y) [
  | inl a ↦
      elim (eqb_tells i j) [ inl b ↦ inl (λ t. In_leaf (a.1 t) (b.1 t)) | inr b ↦ inr (λ e. b.1 (ap slot_number e)) ]
  | inr a ↦ inr (λ e. a.1 (ap owner e))
]
same_slot_id (In_leaf x i) (In_session k j) = inr (λ e. cc)
same_slot_id (In_leaf x i) (In_object k) = inr (λ e. cc)
same_slot_id (In_session k j) (In_leaf x i) = inr (λ e. cc)
same_slot_id (In_session k i) (In_session m j) = elim (eqb_tells k m) [
  | inl a ↦
      elim (eqb_tells i j) [ inl b ↦ inl (λ t. In_session (a.1 t) (b.1 t)) | inr b ↦ inr (λ e. b.1 (ap slot_number e)) ]
  | inr a ↦ inr (λ e. a.1 (ap owner e))
]
same_slot_id (In_session k i) (In_object m) = inr (λ e. cc)
same_slot_id (In_object k) (In_leaf x i) = inr (λ e. cc)
same_slot_id (In_object k) (In_session m j) = inr (λ e. cc)
same_slot_id (In_object k) (In_object m) = elim (eqb_tells k m) [ inl a ↦ inl (λ t. In_object (a.1 t)) | inr a ↦ inr (λ e. a.1 (ap owner e)) ]

-- LEAVES

module _ (w : World) (x : ℕ) (old leaf : Leaf) (there : slice_get w.leaves x ≡ Some old) where
  pub leaf_stance : stance_in (slice_get (with_leaf w x leaf).leaves x) ≡ Some (stance leaf.phase leaf.current)
  leaf_stance = ap stance_in (set_here w.leaves x leaf old there)

  pub leaf_stances : (y : ℕ) → y ≢ x → stance_in (slice_get (with_leaf w x leaf).leaves y) ≡ stance_in (slice_get w.leaves y)
  leaf_stances y ne = ap stance_in (set_else w.leaves x y leaf ne)

  -- each slot, where the leaf's own are given
  pub leaf_slots : (slots : List Slot) → leaf.slots ≡ slots → (r : SlotId) → ((i : ℕ) → r ≡ In_leaf x i → slice_get slots i ≡ slot_at w r)
      → slot_at (with_leaf w x leaf) r ≡ slot_at w r
  leaf_slots slots same (In_leaf y i) own =
      elim (eqb_tells y x) [
        | inl e ↦ ap (λ y. leaf_slot (slice_get (slice_set w.leaves x leaf) y) i) e.1
            ∙ (ap (λ o. leaf_slot o i) (set_here w.leaves x leaf old there) ∙ (ap (λ s. slice_get s i) same ∙ own i (ap (λ y. In_leaf y i) e.1)))
        | inr e ↦ ap (λ o. leaf_slot o i) (set_else w.leaves x y leaf e.1)
      ]
  leaf_slots slots same (In_session k i) own = refl
  leaf_slots slots same (In_object k) own = refl

  pub leaf_keeps_slots : leaf.slots ≡ old.slots → (r : SlotId) → slot_at (with_leaf w x leaf) r ≡ slot_at w r
  leaf_keeps_slots same r = leaf_slots old.slots same r (own r)
    where
      own : (r : SlotId) (i : ℕ) → r ≡ In_leaf x i → slice_get old.slots i ≡ slot_at w r
      own r i e = sym (ap (λ o. leaf_slot o i) there) ∙ ap (slot_at w) (sym e)

-- SESSIONS

pub session_here : (w : World) (k : ℕ) (t s : Session) → session_at w k ≡ Some t → session_at (with_session w k s) k ≡ Some s
session_here w k t s e = go (slice_get w.sessions k) refl e
  where
    go : (o : Option (Option Session)) → slice_get w.sessions k ≡ o → joined o ≡ Some t → joined (slice_get (slice_set w.sessions k (Some s)) k) ≡ Some s
    go None f e = absurd (none_some e)
    go (Some a) f e = ap joined (set_here w.sessions k (Some s) a f)

pub session_else : (w : World) (k j : ℕ) (s : Session) → j ≢ k → session_at (with_session w k s) j ≡ session_at w j
session_else w k j s ne = ap joined (set_else w.sessions k j (Some s) ne)

module _ (w : World) (k : ℕ) (t s : Session) (there : session_at w k ≡ Some t) where
  -- outlines, where the session's own is the same
  pub session_outlines : outline s ≡ outline t → (j : ℕ) → outline_in (session_at (with_session w k s) j) ≡ outline_in (session_at w j)
  session_outlines same j =
      elim (eqb_tells j k) [
        | inl e ↦ ap (λ j. outline_in (session_at (with_session w k s) j)) e.1
            ∙ (ap outline_in (session_here w k t s there) ∙ (ap Some same ∙ (sym (ap outline_in there) ∙ ap (λ j. outline_in (session_at w j)) (sym e.1))))
        | inr e ↦ ap outline_in (session_else w k j s e.1)
      ]

  -- slots, where those of the session are as they were but for this one
  pub session_slots : (q : SlotId) → ((i : ℕ) → In_session k i ≢ q → slice_get s.slots i ≡ slice_get t.slots i) → (In_object k ≢ q → s.object ≡ t.object)
      → (r : SlotId) → r ≢ q → slot_at (with_session w k s) r ≡ slot_at w r
  session_slots q bank object (In_leaf x i) ne = refl
  session_slots q bank object (In_session j i) ne =
      elim (eqb_tells j k) [
        | inl e ↦ (ap (λ j. session_slot (session_at (with_session w k s) j) i) e.1
            ∙ (ap (λ o. session_slot o i) (session_here w k t s there)
            ∙ (bank i (λ f. ne (ap (λ j. In_session j i) e.1 ∙ f))
            ∙ (sym (ap (λ o. session_slot o i) there) ∙ ap (λ j. session_slot (session_at w j) i) (sym e.1)))))
        | inr e ↦ ap (λ o. session_slot o i) (session_else w k j s e.1)
      ]
  session_slots q bank object (In_object j) ne =
      elim (eqb_tells j k) [
        | inl e ↦ (ap (λ j. session_object (session_at (with_session w k s) j)) e.1
            ∙ (ap session_object (session_here w k t s there)
            ∙ (ap Some (object (λ f. ne (ap In_object e.1 ∙ f))) ∙ (sym (ap session_object there) ∙ ap (λ j. session_object (session_at w j)) (sym e.1)))))
        | inr e ↦ ap session_object (session_else w k j s e.1)
      ]

-- SLOTS

-- what a slot that is there is found in
pub leaf_there : (w : World) (x i : ℕ) (slot : Slot) → slot_at w (In_leaf x i) ≡ Some slot
    → (leaf : Leaf) × (slice_get w.leaves x ≡ Some leaf) × (slice_get leaf.slots i ≡ Some slot)
leaf_there w x i slot e = go (slice_get w.leaves x) refl e
  where
    go : (o : Option Leaf) → slice_get w.leaves x ≡ o → leaf_slot o i ≡ Some slot
        → (leaf : Leaf) × (slice_get w.leaves x ≡ Some leaf) × (slice_get leaf.slots i ≡ Some slot)
    go None f e = absurd (none_some e)
    go (Some leaf) f e = (leaf, f, e)

pub session_there : (w : World) (k i : ℕ) (slot : Slot) → slot_at w (In_session k i) ≡ Some slot
    → (s : Session) × (session_at w k ≡ Some s) × (slice_get s.slots i ≡ Some slot)
session_there w k i slot e = go (session_at w k) refl e
  where
    go : (o : Option Session) → session_at w k ≡ o → session_slot o i ≡ Some slot
        → (s : Session) × (session_at w k ≡ Some s) × (slice_get s.slots i ≡ Some slot)
    go None f e = absurd (none_some e)
    go (Some s) f e = (s, f, e)

pub object_there : (w : World) (k : ℕ) (slot : Slot) → slot_at w (In_object k) ≡ Some slot → (s : Session) × (session_at w k ≡ Some s) × (s.object ≡ slot)
object_there w k slot e = go (session_at w k) refl e
  where
    go : (o : Option Session) → session_at w k ≡ o → session_object o ≡ Some slot → (s : Session) × (session_at w k ≡ Some s) × (s.object ≡ slot)
    go None f e = absurd (none_some e)
    go (Some s) f e = (s, f, some_same e)

pub slot_here : (w : World) (q : SlotId) (slot old : Slot) → slot_at w q ≡ Some old → slot_at (with_slot w q slot) q ≡ Some slot
slot_here w (In_leaf x i) slot old e =
    let f = leaf_there w x i old e in
    ap (λ o. leaf_slot (slice_get (put_leaf_slot w o x i slot).leaves x) i) f.1
    ∙ (ap (λ o. leaf_slot o i) (set_here w.leaves x (record f.0 { slots = slice_set f.0.slots i slot }) f.0 f.1) ∙ set_here f.0.slots i slot old f.2)
slot_here w (In_session k i) slot old e =
    let f = session_there w k i old e in
    ap (λ o. session_slot (session_at (put_session_slot w o k i slot) k) i) f.1
    ∙ (ap (λ o. session_slot o i) (session_here w k f.0 (record f.0 { slots = slice_set f.0.slots i slot }) f.1) ∙ set_here f.0.slots i slot old f.2)
slot_here w (In_object k) slot old e =
    let f = object_there w k old e in
    ap (λ o. session_object (session_at (put_object w o k slot) k)) f.1 ∙ ap session_object (session_here w k f.0 (record f.0 { object = slot }) f.1)

pub slot_else : (w : World) (q : SlotId) (slot : Slot) (r : SlotId) → r ≢ q → slot_at (with_slot w q slot) r ≡ slot_at w r
slot_else w (In_leaf x i) slot r ne = go (slice_get w.leaves x) refl
  where
    go : (o : Option Leaf) → slice_get w.leaves x ≡ o → slot_at (put_leaf_slot w o x i slot) r ≡ slot_at w r
    go None e = refl
    go (Some leaf) e = leaf_slots w x leaf (record leaf { slots = slice_set leaf.slots i slot }) e (slice_set leaf.slots i slot) refl r own
      where
        own : (j : ℕ) → r ≡ In_leaf x j → slice_get (slice_set leaf.slots i slot) j ≡ slot_at w r
        own j f = set_else leaf.slots i j slot (λ s. ne (f ∙ ap (In_leaf x) s)) ∙ (sym (ap (λ o. leaf_slot o j) e) ∙ ap (slot_at w) (sym f))
slot_else w (In_session k i) slot r ne = go (session_at w k) refl
  where
    go : (o : Option Session) → session_at w k ≡ o → slot_at (put_session_slot w o k i slot) r ≡ slot_at w r
    go None e = refl
    go (Some s) e = session_slots w k s (record s { slots = slice_set s.slots i slot }) e (In_session k i)
        (λ j other. set_else s.slots i j slot (λ f. other (ap (In_session k) f))) (λ other. refl) r ne
slot_else w (In_object k) slot r ne = go (session_at w k) refl
  where
    go : (o : Option Session) → session_at w k ≡ o → slot_at (put_object w o k slot) r ≡ slot_at w r
    go None e = refl
    go (Some s) e = session_slots w k s (record s { object = slot }) e (In_object k) (λ j other. refl) (λ other. absurd (other refl)) r ne

-- outlines, where what is written to an object is of its shape
pub slot_outlines : (w : World) (q : SlotId) (slot : Slot) → ((k : ℕ) (s : Session) → q ≡ In_object k → session_at w k ≡ Some s → shape slot ≡ shape s.object)
    → (j : ℕ) → outline_in (session_at (with_slot w q slot) j) ≡ outline_in (session_at w j)
slot_outlines w (In_leaf x i) slot fits j = go (slice_get w.leaves x)
  where
    go : (o : Option Leaf) → outline_in (session_at (put_leaf_slot w o x i slot) j) ≡ outline_in (session_at w j)
    go None = refl
    go (Some leaf) = refl
slot_outlines w (In_session k i) slot fits j = go (session_at w k) refl
  where
    go : (o : Option Session) → session_at w k ≡ o → outline_in (session_at (put_session_slot w o k i slot) j) ≡ outline_in (session_at w j)
    go None e = refl
    go (Some s) e = session_outlines w k s (record s { slots = slice_set s.slots i slot }) e refl j
slot_outlines w (In_object k) slot fits j = go (session_at w k) refl
  where
    go : (o : Option Session) → session_at w k ≡ o → outline_in (session_at (put_object w o k slot) j) ≡ outline_in (session_at w j)
    go None e = refl
    go (Some s) e = session_outlines w k s (record s { object = slot }) e (ap (λ o. record s { object = o; slots = [] }) (fits k s refl e)) j

pub slot_stances : (w : World) (q : SlotId) (slot : Slot) (y : ℕ) → stance_in (slice_get (with_slot w q slot).leaves y) ≡ stance_in (slice_get w.leaves y)
slot_stances w (In_leaf x i) slot y = go (slice_get w.leaves x) refl
  where
    go : (o : Option Leaf) → slice_get w.leaves x ≡ o → stance_in (slice_get (put_leaf_slot w o x i slot).leaves y) ≡ stance_in (slice_get w.leaves y)
    go None e = refl
    go (Some leaf) e =
        let new = record leaf { slots = slice_set leaf.slots i slot } in
        elim (eqb_tells y x) [
          | inl f ↦ (ap (λ y. stance_in (slice_get (slice_set w.leaves x new) y)) f.1
              ∙ (leaf_stance w x leaf new e ∙ (sym (ap stance_in e) ∙ ap (λ y. stance_in (slice_get w.leaves y)) (sym f.1))))
          | inr f ↦ leaf_stances w x leaf new e y f.1
        ]
slot_stances w (In_session k i) slot y = go (session_at w k)
  where
    go : (o : Option Session) → stance_in (slice_get (put_session_slot w o k i slot).leaves y) ≡ stance_in (slice_get w.leaves y)
    go None = refl
    go (Some s) = refl
slot_stances w (In_object k) slot y = go (session_at w k)
  where
    go : (o : Option Session) → stance_in (slice_get (put_object w o k slot).leaves y) ≡ stance_in (slice_get w.leaves y)
    go None = refl
    go (Some s) = refl

-- the requests stay
pub slot_requests : (w : World) (q : SlotId) (slot : Slot) → (with_slot w q slot).requests ≡ w.requests
slot_requests w (In_leaf x i) slot = go (slice_get w.leaves x)
  where
    go : (o : Option Leaf) → (put_leaf_slot w o x i slot).requests ≡ w.requests
    go None = refl
    go (Some leaf) = refl
slot_requests w (In_session k i) slot = go (session_at w k)
  where
    go : (o : Option Session) → (put_session_slot w o k i slot).requests ≡ w.requests
    go None = refl
    go (Some s) = refl
slot_requests w (In_object k) slot = go (session_at w k)
  where
    go : (o : Option Session) → (put_object w o k slot).requests ≡ w.requests
    go None = refl
    go (Some s) = refl

-- a leaf stays there
pub leaf_in_slot : (w : World) (q : SlotId) (slot : Slot) (x : ℕ) (old : Leaf) → slice_get w.leaves x ≡ Some old
    → (leaf : Leaf) × (slice_get (with_slot w q slot).leaves x ≡ Some leaf)
leaf_in_slot w (In_leaf y i) slot x old there = go (slice_get w.leaves y) refl
  where
    go : (o : Option Leaf) → slice_get w.leaves y ≡ o → (leaf : Leaf) × (slice_get (put_leaf_slot w o y i slot).leaves x ≡ Some leaf)
    go None e = (old, there)
    go (Some leaf) e =
        elim (eqb_tells x y) [
          | inl f ↦ (
            record leaf { slots = slice_set leaf.slots i slot },
            ap (slice_get (slice_set w.leaves y (record leaf { slots = slice_set leaf.slots i slot }))) f.1 ∙ set_here w.leaves y _ leaf e,
          )
          | inr f ↦ (old, set_else w.leaves y x _ f.1 ∙ there)
        ]
leaf_in_slot w (In_session k i) slot x old there = go (session_at w k)
  where
    go : (o : Option Session) → (leaf : Leaf) × (slice_get (put_session_slot w o k i slot).leaves x ≡ Some leaf)
    go None = (old, there)
    go (Some s) = (old, there)
leaf_in_slot w (In_object k) slot x old there = go (session_at w k)
  where
    go : (o : Option Session) → (leaf : Leaf) × (slice_get (put_object w o k slot).leaves x ≡ Some leaf)
    go None = (old, there)
    go (Some s) = (old, there)
