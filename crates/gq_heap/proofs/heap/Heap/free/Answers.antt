use Rattle.std.proofs.Common.{subst}
use Rattle.gq_heap.specs.Heap.{IsInUse}
use Rattle.gq_heap.proofs.Heap_caller_facts.{heap_after}
use Rattle.gq_heap.proofs.heap.Heap.free.Goals as goal

pub free_small-requires : goal.free_small-requires
free_small-requires g c =
    (c.args.account.0, subst (IsInUse c.args.self.now (g.S.ByteStore.state c.args.store.now c.args.account.0)) c.in-Small.is c.requires)

pub returns-in-Small-clause-frees : goal.returns-in-Small-clause-frees
returns-in-Small-clause-frees g c =
    let used = subst (IsInUse c.args.self.now (g.S.ByteStore.state c.args.store.now c.args.account.0)) c.in-Small.is c.requires in
    rw c.in-Small.is (c.free_small.ensures.frees c.args.account.0 used)

pub returns-in-Small-clause-kept : goal.returns-in-Small-clause-kept
returns-in-Small-clause-kept g c =
    let used = subst (IsInUse c.args.self.now (g.S.ByteStore.state c.args.store.now c.args.account.0)) c.in-Small.is c.requires in
    heap_after c.args.self.now _ (g.S.ByteStore.state c.args.store.now c.args.account.0) _ _ used (c.free_small.ensures.frees c.args.account.0 used)

pub returns-in-Small-clause-rest : goal.returns-in-Small-clause-rest
returns-in-Small-clause-rest g c =
    let used = subst (IsInUse c.args.self.now (g.S.ByteStore.state c.args.store.now c.args.account.0)) c.in-Small.is c.requires in
    c.free_small.ensures.rest c.args.account.0 used

pub returns-in-Large-clause-kept : goal.returns-in-Large-clause-kept
returns-in-Large-clause-kept g c =
    let used = subst (IsInUse c.args.self.now (g.S.ByteStore.state c.args.store.now c.args.account.0)) c.in-Large.is c.requires in
    heap_after c.args.self.now _ (g.S.ByteStore.state c.args.store.now c.args.account.0) _ _ used c.free_large.ensures.frees
