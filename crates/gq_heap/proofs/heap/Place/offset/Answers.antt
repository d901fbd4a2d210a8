use Rattle.std.proofs.Common.{arith}
use Rattle.gq_heap.proofs.Heap_call_invariants.{offset_small}
use Rattle.gq_heap.proofs.heap.Place.offset.Goals as goal

pub cell_position-requires-clause-power : goal.cell_position-requires-clause-power
cell_position-requires-clause-power c = rw c.places_per_chunk.ensures c.place_bits.ensures.bits

pub overflow_mul-result : goal.overflow_mul-result
overflow_mul-result c =
    rw (c.cell_position.ensures.index, c.places_per_chunk.ensures, c.place_size.ensures) (omega (arith, offset_small c.in-Small.class c.in-Small.number))
