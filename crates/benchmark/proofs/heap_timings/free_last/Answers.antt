use Rattle.std.proofs.Common.{[], ◌∷◌, ◌++◌, List, refl, sym, subst, append-nil}
use Rattle.gq_heap.specs.declared.heap.Place.{Place}
use Rattle.gq_heap.specs.Heap.{AreInUse}
use Rattle.gq_heap.proofs.Heap_caller_facts.{one_in_use}
use Rattle.benchmark.proofs.Benchmark_block_lists.{last_freed}
use Rattle.benchmark.proofs.heap_timings.free_last.Goals as goal

pub free-requires : goal.free-requires
free-requires g c =
    let st = g.S.ByteStore.state c.args.store.now 0 in let p = c.in-Some.place in let rest : List Place = c.pop.new.self.items in
    let all : AreInUse c.args.heap.now st (rest ++ p ∷ []) = subst (λ (ps : List Place). AreInUse c.args.heap.now st ps) c.in-Some.ensures.items c.requires in
    one_in_use c.args.heap.now st p rest (rest ++ p ∷ []) all (rest, [], sym (append-nil rest), refl)

pub returns : goal.returns
returns g c =
    let st = g.S.ByteStore.state c.args.store.now 0 in let p = c.in-Some.place in let rest : List Place = c.pop.new.self.items in
    let all : AreInUse c.args.heap.now st (rest ++ p ∷ []) = subst (λ (ps : List Place). AreInUse c.args.heap.now st ps) c.in-Some.ensures.items c.requires in
    last_freed c.args.heap.now c.free.new.self st (g.S.ByteStore.state c.free.new.store 0) p rest all c.free.ensures.frees
