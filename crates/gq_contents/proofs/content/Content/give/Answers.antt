use Rattle.gq_contents.proofs.Content_caller_facts.{is_pool}
use Rattle.gq_contents.proofs.Slot_pool_entries.{gives_changes, gives_seen, gives_absent, gives_pays, gives_peaks}
use Rattle.gq_contents.proofs.content.Content.give.Goals as goal

pub give-requires-clause-kept : goal.give-requires-clause-kept
give-requires-clause-kept g c = is_pool _ _ _ (rw c.pool-pool.ensures at c.requires.kept)

pub give-requires-clause-inside : goal.give-requires-clause-inside
give-requires-clause-inside g c = rw c.pool-pool.ensures at c.requires.inside

pub returns-clause-changes : goal.returns-clause-changes
returns-clause-changes g c =
    let l = rw c.pool-pool.ensures at c.requires.inside in
    rw c.pool-pool.ensures
    (gives_changes c.pool-pool.result c.args.heap.now c.give.new.heap (g.S.ByteStore.state c.args.store.now c.args.account.0)
    (g.S.ByteStore.state c.give.new.store c.args.account.0) c.args.index
    c.give.result l c.give.ensures.gives)

pub returns-clause-seen : goal.returns-clause-seen
returns-clause-seen g c =
    let l = rw c.pool-pool.ensures at c.requires.inside in
    rw c.pool-pool.ensures
    (gives_seen c.pool-pool.result c.args.heap.now c.give.new.heap (g.S.ByteStore.state c.args.store.now c.args.account.0)
    (g.S.ByteStore.state c.give.new.store c.args.account.0) c.args.index
    c.give.result l c.give.ensures.gives (rw c.pool-pool.ensures at c.requires.kept))

pub returns-clause-absent : goal.returns-clause-absent
returns-clause-absent g c =
    let l = rw c.pool-pool.ensures at c.requires.inside in
    rw c.pool-pool.ensures
    (gives_absent c.pool-pool.result c.args.heap.now c.give.new.heap (g.S.ByteStore.state c.args.store.now c.args.account.0)
    (g.S.ByteStore.state c.give.new.store c.args.account.0) c.args.index
    c.give.result l c.give.ensures.gives)

pub returns-clause-pays : goal.returns-clause-pays
returns-clause-pays g c =
    let l = rw c.pool-pool.ensures at c.requires.inside in
    rw c.pool-pool.ensures
    (gives_pays c.pool-pool.result c.args.heap.now c.give.new.heap (g.S.ByteStore.state c.args.store.now c.args.account.0)
    (g.S.ByteStore.state c.give.new.store c.args.account.0) c.args.index
    c.give.result l c.give.ensures.gives)

pub returns-clause-peaks : goal.returns-clause-peaks
returns-clause-peaks g c =
    let l = rw c.pool-pool.ensures at c.requires.inside in
    gives_peaks c.pool-pool.result c.args.heap.now c.give.new.heap (g.S.ByteStore.state c.args.store.now c.args.account.0) (g.S.ByteStore.state
    c.give.new.store c.args.account.0) c.args.index
    c.give.result l c.give.ensures.gives
