use Rattle.gq_heap.proofs.Heap_caller_facts.{heap_of_places}
use Rattle.benchmark.proofs.heap_timings.pairs_in.Goals as goal

pub loop-init : goal.loop-init
loop-init g c =
    heap_of_places c.alloc_all.new.heap (g.S.ByteStore.state c.alloc_all.new.store 0) c.alloc_all.new.places.items c.in_ok-alloc_all.ensures
