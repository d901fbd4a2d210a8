use Rattle.gq_heap.specs.Classes.{index_of}
use Rattle.gq_heap.proofs.ClassLaws.{index_below, size_shifted}
use Rattle.gq_heap.proofs.cell_class.place_size.Goals as goal

pub returns : goal.returns
returns c = rw c.class_index.ensures.index (size_shifted (index_of c.args.class) (index_below c.args.class))
