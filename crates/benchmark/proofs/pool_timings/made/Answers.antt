use Rattle.gq_pool.proofs.Pool_caller_facts.{pool_made}
use Rattle.benchmark.proofs.pool_timings.made.Goals as goal

pub returns-clause-kept : goal.returns-clause-kept
returns-clause-kept g c = pool_made c.in_ok-pool.pool c.args.heap.now (g.S.ByteStore.state c.args.store.now 0) (g.S.ByteStore.state c.new.new.store 0) 16 1024
    c.requires c.in_ok-pool.ensures.ok
