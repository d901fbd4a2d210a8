use Rattle.gq_heap.specs.Heap.{IsHeap}
use Rattle.benchmark.proofs.heap_timings.alloc_and_free.Given as goal

abbrev pub invariant-loop : goal.invariant-loop
invariant-loop g l = IsHeap l.heap (g.S.ByteStore.state l.store 0)
