use Rattle.gq_heap.specs.Heap.{IsHeap}
use Rattle.gq_memory_rows.proofs.heap_rows.fill.Given as goal

abbrev pub invariant-loop : goal.invariant-loop
invariant-loop g l = IsHeap l.heap (g.S.ByteStore.state l.store l.account.0)
