-- A world in which a slot holds what it held.
use Rattle.std.proofs.Common.{◌≡◌, ℕ, Option, Some, None, refl, ap, ◌∙◌}
use Rattle.std.specs.Prelude.{slice_get}
use Rattle.gq_model.specs.machine.World as world
use Rattle.gq_slots.proofs.Slot_change_worlds.{set_there}

leaf_same : (w : world.World) (x i : ℕ) (slot : world.Slot) (o : Option world.Leaf) → slice_get w.leaves x ≡ o → world.leaf_slot o i ≡ Some slot
    → world.put_leaf_slot w o x i slot ≡ w
leaf_same w x i slot None e f = refl
leaf_same w x i slot (Some leaf) e f =
    ap (λ slots. world.with_leaf w x (record leaf { slots = slots })) (set_there leaf.slots i slot f)
    ∙ ap (λ leaves. record w { leaves = leaves }) (set_there w.leaves x leaf e)

joined_there : (w : world.World) (k : ℕ) (q : world.Session) (o : Option (Option world.Session)) → slice_get w.sessions k ≡ o → world.joined o ≡ Some q
    → slice_get w.sessions k ≡ Some (Some q)
joined_there w k q None e f = cc
joined_there w k q (Some a) e f = e ∙ ap Some f

session_same : (w : world.World) (k : ℕ) (q : world.Session) → world.session_at w k ≡ Some q → world.with_session w k q ≡ w
session_same w k q e =
    ap (λ sessions. record w { sessions = sessions }) (set_there w.sessions k (Some q) (joined_there w k q (slice_get w.sessions k) refl e))

slot_same : (w : world.World) (k i : ℕ) (slot : world.Slot) (o : Option world.Session) → world.session_at w k ≡ o → world.session_slot o i ≡ Some slot
    → world.put_session_slot w o k i slot ≡ w
slot_same w k i slot None e f = refl
slot_same w k i slot (Some q) e f =
    ap (λ slots. world.with_session w k (record q { slots = slots })) (set_there q.slots i slot f) ∙ session_same w k q e

object_same : (w : world.World) (k : ℕ) (slot : world.Slot) (o : Option world.Session) → world.session_at w k ≡ o → world.session_object o ≡ Some slot
    → world.put_object w o k slot ≡ w
object_same w k slot None e f = refl
object_same w k slot (Some q) e f =
    let same : slot ≡ q.object = cc in
    ap (λ y. world.with_session w k (record q { object = y })) same ∙ session_same w k q e

pub with_same : (w : world.World) (p : world.SlotId) (slot : world.Slot) → world.slot_at w p ≡ Some slot → world.with_slot w p slot ≡ w
with_same w (world.In_leaf x i) slot e = leaf_same w x i slot (slice_get w.leaves x) refl e
with_same w (world.In_session k i) slot e = slot_same w k i slot (world.session_at w k) refl e
with_same w (world.In_object k) slot e = object_same w k slot (world.session_at w k) refl e
