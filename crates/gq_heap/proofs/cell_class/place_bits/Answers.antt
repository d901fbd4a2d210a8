use Rattle.gq_heap.proofs.ClassLaws.{index_below, places_power}
use Rattle.gq_heap.specs.Classes.{index_of}
use Rattle.gq_heap.proofs.cell_class.place_bits.Goals as goal

pub returns-clause-bits : goal.returns-clause-bits
returns-clause-bits c = rw c.class_index.ensures.index (places_power (index_of c.args.class) (index_below c.args.class))
