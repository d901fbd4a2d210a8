use Rattle.gq_trade.specs.declared.session.SlotId.TheVariants.{InLeaf}
use Rattle.gq_memory_rows.proofs.slots_rows.use_leaf.Goals as goal

pub make-three-requires-clause-there : goal.make-three-requires-clause-there
make-three-requires-clause-there c = c.make-five.ensures.slot_ids (InLeaf 0 3) c.requires.first

pub stored-read-requires : goal.stored-read-requires
stored-read-requires c = record { there = c.make-three.ensures.slot_ids (InLeaf 0 3) (c.make-five.ensures.slot_ids (InLeaf 0 3) c.requires.first) }

pub make-two_more-requires-clause-there : goal.make-two_more-requires-clause-there
make-two_more-requires-clause-there c =
    c.stored-read.ensures.slot_ids (InLeaf 0 4) (c.make-three.ensures.slot_ids (InLeaf 0 4) (c.make-five.ensures.slot_ids (InLeaf 0 4) c.requires.second))

pub free-requires-clause-there : goal.free-requires-clause-there
free-requires-clause-there c =
    c.make-two_more.ensures.slot_ids (InLeaf 0 3) (c.stored-read.ensures.slot_ids (InLeaf 0 3)
    (c.make-three.ensures.slot_ids (InLeaf 0 3) (c.make-five.ensures.slot_ids (InLeaf 0 3) c.requires.first)))

pub make-two-requires-clause-there : goal.make-two-requires-clause-there
make-two-requires-clause-there c =
    c.free.ensures.rest.slot_ids (InLeaf 0 4) (c.make-two_more.ensures.slot_ids (InLeaf 0 4) (c.stored-read.ensures.slot_ids (InLeaf 0 4)
    (c.make-three.ensures.slot_ids (InLeaf 0 4) (c.make-five.ensures.slot_ids (InLeaf 0 4) c.requires.second))))
