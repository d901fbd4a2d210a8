use Rattle.std.proofs.Common.{◌/◌, ◌^◌, ap}
use Rattle.gq_heap.specs.Classes.{places_at}
use Rattle.gq_heap.proofs.cell_class.places_per_chunk.Goals as goal

pub returns : goal.returns
unfolding places_at
returns c = ap (λ i. 256 / 2 ^ i) c.class_index.ensures.index
