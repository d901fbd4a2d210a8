use Rattle.gq_trade.specs.declared.session.SlotId.TheVariants.{InLeaf}
use Rattle.benchmark.proofs.session_timings.reply.Goals as goal

pub returns-in-Empty : goal.returns-in-Empty
returns-in-Empty c = c.mark.ensures.rest.slot_ids (InLeaf 1 0) c.requires.there
