-- What no call on a slot changes of the others.
use Rattle.gq_trade.specs.declared.session.SlotId.{SlotId}
use Rattle.gq_slots.specs.Slots.{Slots, IsSlotId}

-- each slot stays
pub record Stays (old new : Slots) : Type 0 where
  pub slot_ids : (q : SlotId) → IsSlotId old q → IsSlotId new q
