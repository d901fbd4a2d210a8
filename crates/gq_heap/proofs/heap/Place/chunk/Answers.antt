use Rattle.gq_heap.proofs.heap.Place.chunk.Goals as goal

pub cell_position-requires-clause-power : goal.cell_position-requires-clause-power
cell_position-requires-clause-power c = rw c.places_per_chunk.ensures c.place_bits.ensures.bits
