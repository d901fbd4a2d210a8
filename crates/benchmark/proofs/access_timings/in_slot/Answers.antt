use Rattle.std.proofs.Common.{sym}
use Rattle.gq_trade.specs.declared.session.SlotId.TheVariants.{InLeaf}
use Rattle.benchmark.proofs.access_timings.in_slot.Goals as goal

pub read-requires-clause-there : goal.read-requires-clause-there
read-requires-clause-there c = record { slot_id = InLeaf 1 0; there = c.requires; is = sym c.in_ok-extent.ensures }
