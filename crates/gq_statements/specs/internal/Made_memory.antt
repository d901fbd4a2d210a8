-- Memory that a statement makes.
use Rattle.std.specs.Prelude.{◌≡◌, ◌<◌, length, false, Option, Some, None, Result, Err, OnErr, OnOk}
use Rattle.gq_model.specs.declared.program.OperandSlot.{OperandSlot}
use Rattle.gq_model.specs.machine.Scenario.{System}
use Rattle.gq_model.specs.machine.World as world
use Rattle.gq_model.specs.machine.Sums.{paid}
use Rattle.gq_model.specs.machine.Doing.{Doing, Stepped, fill, need}
use Rattle.gq_model.specs.declared.fault.Wrong.TheVariants.{WrongKind}
use Rattle.gq_trade.specs.declared.session.SlotId.{SlotId}
use Rattle.gq_trade.specs.Seen_sessions.{slot_id_seen}
use Rattle.gq_slots.specs.Slots.{Frame, IsSlot, IsSlotId, Slots, holder, settled_in, world_seen}
use Rattle.gq_slots.specs.Calls.{Settles}
use Rattle.gq_statements.specs.Systems.{IsOf}

-- a step goes on with something new in the slot that it names
abbrev pub filling : Doing → world.World → OperandSlot → world.Slot → (world.World → Stepped) → Stepped
filling d w place slot go = need (world.slot_id_of d.x d.leaf.current place) WrongKind (λ slot_id. fill w slot_id (world.slot_at w slot_id) slot go)

-- It goes on with this slot, which is empty in the world w, or none that is empty is named.
abbrev pub IsFilled : Doing → world.World → OperandSlot → Option SlotId → Type 0
IsFilled d w place None = (slot : world.Slot) (go : world.World → Stepped) → filling d w place slot go ≡ Err WrongKind
IsFilled d w place (Some p) = (slot : world.Slot) (go : world.World → Stepped) → filling d w place slot go ≡ go (world.with_slot w (slot_id_seen p) slot)

-- with this in the slot the world would not be paid for
abbrev pub IsUnpaid : Slots → SlotId → world.Slot → Type 0
IsUnpaid s p slot = (system : System) (f : Frame) → IsOf system f s
    → paid system (settled_in (holder s p) (world.with_slot (world_seen f s) (slot_id_seen p) slot)) ≡ false

-- a slot in which something can be made: it is there, of a leaf that is there
pub record IsPayable (s : Slots) (p : SlotId) : Type 0 where
  pub slot : IsSlot p
  pub there : IsSlotId s p
  pub below : holder s p < length s.own

-- This is made in the slot p; or nothing changes, and it could not be paid.
pub record IsMade {A E : Type 0} (result : Result A E) (old new : Slots) (p : SlotId) (slot : world.Slot) : Type 0 where
  pub settles : OnOk result (Settles old new p slot)
  pub unchanged : OnErr result (new ≡ old)
  pub unpaid : OnErr result (IsUnpaid old p slot)
