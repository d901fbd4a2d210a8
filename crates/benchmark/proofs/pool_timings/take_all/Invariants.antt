use Rattle.gq_pool.specs.Pools.{IsPool}
use Rattle.benchmark.proofs.pool_timings.take_all.Given as goal

abbrev pub invariant-loop-index : goal.invariant-loop-index
invariant-loop-index g l = IsPool l.pool l.heap (g.S.ByteStore.state l.store 0)
