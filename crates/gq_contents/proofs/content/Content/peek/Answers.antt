use Rattle.gq_contents.proofs.Content_caller_facts.{is_pool}
use Rattle.gq_contents.proofs.Slot_pool_entries.{reads_seen}
use Rattle.gq_contents.proofs.content.Content.peek.Goals as goal

pub load-requires-clause-kept : goal.load-requires-clause-kept
load-requires-clause-kept g c = (c.requires.kept.0, is_pool _ _ _ (rw c.pool-pool.ensures at c.requires.kept.1))

pub load-requires-clause-inside : goal.load-requires-clause-inside
load-requires-clause-inside g c = rw c.pool-pool.ensures at c.requires.inside

pub returns : goal.returns
returns g c =
    let l = rw c.pool-pool.ensures at c.requires.inside in
    rw c.pool-pool.ensures
    (λ a among. reads_seen c.pool-pool.result c.args.heap.now (g.S.ByteStore.state c.args.store.now a) c.args.index c.args.offset c.load.result l.0 l.1
    among (c.load.ensures a (is_pool _ _ _ among)))
