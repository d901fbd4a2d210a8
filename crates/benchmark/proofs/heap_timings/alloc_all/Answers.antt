use Rattle.std.proofs.Common.{List, sym, subst}
use Rattle.gq_heap.specs.declared.heap.Place.{Place}
use Rattle.gq_heap.specs.Heap.{AreInUse}
use Rattle.benchmark.proofs.Benchmark_block_lists.{last_made}
use Rattle.benchmark.proofs.heap_timings.alloc_all.Goals as goal

pub loop-preserved : goal.loop-preserved
loop-preserved g c =
    let old = g.S.ByteStore.state c.loop.store 0 in let new = g.S.ByteStore.state c.alloc.new.store 0 in let p = c.in_ok-place.place in
    subst (λ (ps : List Place). AreInUse c.alloc.new.self new ps) (sym c.in_ok-keep.ensures)
    (last_made c.loop.heap c.alloc.new.self old new c.args.size p c.loop.places.items c.loop.invariant c.in_ok-place.ensures.ok)
