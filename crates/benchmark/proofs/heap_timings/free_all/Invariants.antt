use Rattle.gq_heap.specs.Heap.{AreInUse}
use Rattle.benchmark.proofs.heap_timings.free_all.Given as goal

abbrev pub invariant-loop : goal.invariant-loop
invariant-loop g l = AreInUse l.heap (g.S.ByteStore.state l.store 0) l.places.items
