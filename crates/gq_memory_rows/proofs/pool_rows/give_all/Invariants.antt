use Rattle.gq_pool.specs.Pools.{IsPool}
use Rattle.gq_memory_rows.proofs.pool_rows.give_all.Given as goal

abbrev pub invariant-loop-index : goal.invariant-loop-index
invariant-loop-index g l = IsPool l.pool l.heap (g.S.ByteStore.state l.store l.account.0)
