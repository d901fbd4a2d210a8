use Rattle.gq_trade.specs.declared.session.SlotId.TheVariants.{InLeaf}
use Rattle.gq_slots.specs.Slots.{IsSlotId}
use Rattle.benchmark.proofs.session_timings.replies.Given as goal

abbrev pub invariant-loop : goal.invariant-loop
invariant-loop l = IsSlotId l.slots (InLeaf 1 0)
