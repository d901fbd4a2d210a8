-- What leaves hold and who is a session's client, as slots, leaves and sessions are written.
use Rattle.std.proofs.Common.{◌≡◌, ◌≢◌, ℕ, zero, suc, ◌≤◌, inl, inr, List, [], ◌∷◌, length, Option, Some, None, refl, ap, sym, ◌∙◌, subst}
use Rattle.std.specs.Prelude.{slice_get, slice_set}
use Rattle.std.proofs.lemmas.Bool.Decides.{eqb_tells}
use Rattle.gq_model.specs.machine.Scenario.{Component}
use Rattle.gq_model.specs.machine.World.{Slot, SlotId, In_leaf, In_session, In_object, Session, Current, Leaf, World, session_at, with_leaf, with_session}
use Rattle.gq_model.specs.machine.World.{put_leaf_slot, put_session_slot, put_object, with_slot, start_leaves}
use Rattle.gq_model.specs.machine.Step.{all_released}
use Rattle.gq_model.proofs.Small_facts.{some_same, none_some}
use Rattle.gq_laws.proofs.session_links.Written_world_links.{set_else, session_here, session_else}
use Rattle.gq_laws.specs.Room.{HasRoomFor}

-- a leaf's operands, and what is current at it
pub record Held : Type 0 where
  pub operands : List ℕ
  pub current : Option Current

abbrev pub held : Leaf → Held
held leaf = record { operands = leaf.operands; current = leaf.current }

abbrev pub held_in : Option Leaf → Option Held
held_in None = None
held_in (Some leaf) = Some (held leaf)

abbrev pub client_in : Option Session → Option ℕ
client_in None = None
client_in (Some s) = Some s.client

-- what is found by what it holds, or by its client, is there
pub leaf_of_held : (o : Option Leaf) (h : Held) → held_in o ≡ Some h → (leaf : Leaf) × (o ≡ Some leaf) × (held leaf ≡ h)
leaf_of_held None h e = absurd (none_some e)
leaf_of_held (Some leaf) h e = (leaf, refl, some_same e)

pub session_of_client : (o : Option Session) (c : ℕ) → client_in o ≡ Some c → (s : Session) × (o ≡ Some s) × (s.client ≡ c)
session_of_client None c e = absurd (none_some e)
session_of_client (Some s) c e = (s, refl, some_same e)

-- LEAVES

set_held : (leaves : List Leaf) (x : ℕ) (leaf : Leaf) (h : Held) → held_in (slice_get (slice_set leaves x leaf) x) ≡ Some h → held leaf ≡ h
set_held [] x leaf h e = absurd (none_some e)
set_held (l ∷ rest) zero leaf h e = some_same e
set_held (l ∷ rest) (suc x) leaf h e = set_held rest x leaf h e

same_held : (leaves : List Leaf) (x : ℕ) (old leaf : Leaf) → slice_get leaves x ≡ Some old → held leaf ≡ held old
    → held_in (slice_get (slice_set leaves x leaf) x) ≡ held_in (slice_get leaves x)
same_held [] x old leaf e same = absurd (none_some e)
same_held (l ∷ rest) zero old leaf e same = ap Some (same ∙ ap held (sym (some_same e)))
same_held (l ∷ rest) (suc x) old leaf e same = same_held rest x old leaf e same

pub leaf_held : (w : World) (x : ℕ) (leaf : Leaf) (h : Held) → held_in (slice_get (with_leaf w x leaf).leaves x) ≡ Some h → held leaf ≡ h
leaf_held w x leaf h e = set_held w.leaves x leaf h e

pub leaf_held_else : (w : World) (x y : ℕ) (leaf : Leaf) → y ≢ x → held_in (slice_get (with_leaf w x leaf).leaves y) ≡ held_in (slice_get w.leaves y)
leaf_held_else w x y leaf ne = ap held_in (set_else w.leaves x y leaf ne)

-- a leaf that holds what it held
pub leaf_keeps_held : (w : World) (x : ℕ) (old leaf : Leaf) → slice_get w.leaves x ≡ Some old → held leaf ≡ held old → (y : ℕ)
    → held_in (slice_get (with_leaf w x leaf).leaves y) ≡ held_in (slice_get w.leaves y)
leaf_keeps_held w x old leaf there same y = elim (eqb_tells y x) [
  | inl e ↦ ap (λ y. held_in (slice_get (slice_set w.leaves x leaf) y)) e.1
      ∙ (same_held w.leaves x old leaf there same ∙ ap (λ y. held_in (slice_get w.leaves y)) (sym e.1))
  | inr e ↦ leaf_held_else w x y leaf e.1
]

pub released_held : (name : List ℕ) (cs : List Component) (leaves : List Leaf) (y : ℕ)
    → held_in (slice_get (all_released name cs leaves) y) ≡ held_in (slice_get leaves y)
released_held name [] leaves y = refl
released_held name (c ∷ cs) [] y = refl
released_held name (c ∷ cs) (leaf ∷ leaves) zero = refl
released_held name (c ∷ cs) (leaf ∷ leaves) (suc y) = released_held name cs leaves y

-- a leaf starts with no operands, and no current request
pub start_held : (cs : List Component) (x : ℕ) (h : Held) → held_in (slice_get (start_leaves cs) x) ≡ Some h → record { operands = []; current = None } ≡ h
start_held [] x h e = absurd (none_some e)
start_held (c ∷ cs) zero h e = some_same e
start_held (c ∷ cs) (suc x) h e = start_held cs x h e

-- SESSIONS

pub session_clients : (w : World) (k : ℕ) (t s : Session) → session_at w k ≡ Some t → s.client ≡ t.client → (j : ℕ)
    → client_in (session_at (with_session w k s) j) ≡ client_in (session_at w j)
session_clients w k t s there same j = elim (eqb_tells j k) [
  | inl e ↦ ap (λ j. client_in (session_at (with_session w k s) j)) e.1
      ∙ (ap client_in (session_here w k t s there) ∙ (ap Some same ∙ (sym (ap client_in there) ∙ ap (λ j. client_in (session_at w j)) (sym e.1))))
  | inr e ↦ ap client_in (session_else w k j s e.1)
]

-- SLOTS

pub slot_held : (w : World) (q : SlotId) (slot : Slot) (y : ℕ) → held_in (slice_get (with_slot w q slot).leaves y) ≡ held_in (slice_get w.leaves y)
slot_held w (In_leaf x i) slot y = go (slice_get w.leaves x) refl
  where
    go : (o : Option Leaf) → slice_get w.leaves x ≡ o → held_in (slice_get (put_leaf_slot w o x i slot).leaves y) ≡ held_in (slice_get w.leaves y)
    go None e = refl
    go (Some leaf) e = leaf_keeps_held w x leaf (record leaf { slots = slice_set leaf.slots i slot }) e refl y
slot_held w (In_session k i) slot y = go (session_at w k)
  where
    go : (o : Option Session) → held_in (slice_get (put_session_slot w o k i slot).leaves y) ≡ held_in (slice_get w.leaves y)
    go None = refl
    go (Some s) = refl
slot_held w (In_object k) slot y = go (session_at w k)
  where
    go : (o : Option Session) → held_in (slice_get (put_object w o k slot).leaves y) ≡ held_in (slice_get w.leaves y)
    go None = refl
    go (Some s) = refl

pub slot_clients : (w : World) (q : SlotId) (slot : Slot) (j : ℕ) → client_in (session_at (with_slot w q slot) j) ≡ client_in (session_at w j)
slot_clients w (In_leaf x i) slot j = go (slice_get w.leaves x)
  where
    go : (o : Option Leaf) → client_in (session_at (put_leaf_slot w o x i slot) j) ≡ client_in (session_at w j)
    go None = refl
    go (Some leaf) = refl
slot_clients w (In_session k i) slot j = go (session_at w k) refl
  where
    go : (o : Option Session) → session_at w k ≡ o → client_in (session_at (put_session_slot w o k i slot) j) ≡ client_in (session_at w j)
    go None e = refl
    go (Some s) e = session_clients w k s (record s { slots = slice_set s.slots i slot }) e refl j
slot_clients w (In_object k) slot j = go (session_at w k) refl
  where
    go : (o : Option Session) → session_at w k ≡ o → client_in (session_at (put_object w o k slot) j) ≡ client_in (session_at w j)
    go None e = refl
    go (Some s) e = session_clients w k s (record s { object = slot }) e refl j

-- ROOM

-- a session with the same client, which holds what it held, has the same room
pub room_as : (v w : World) (k : ℕ) → ((q : Session) → session_at w k ≡ Some q → client_in (session_at v k) ≡ Some q.client)
    → ((c : ℕ) → client_in (session_at v k) ≡ Some c → held_in (slice_get w.leaves c) ≡ held_in (slice_get v.leaves c)) → HasRoomFor v k → HasRoomFor w k
room_as v w k clients same room q leaf at there =
    let s = session_of_client (session_at v k) q.client (clients q at) in
    let l = leaf_of_held (slice_get v.leaves q.client) (held leaf) (sym (same q.client (clients q at)) ∙ ap held_in there) in
    subst (λ (h : Held). length h.operands ≤ 15) l.2 (room s.0 l.0 s.1 (ap (slice_get v.leaves) s.2 ∙ l.1))
