use Rattle.gq_pool.proofs.Pool_removal.{Cleared}
use Rattle.gq_pool.proofs.pool.Pool.end.Given as goal

abbrev pub invariant-loop-index : goal.invariant-loop-index
invariant-loop-index g l =
    let st = g.S.ByteStore.state in
    record {
      cleared : Cleared l.self l.fn.heap l.heap (st l.fn.store l.account.0) (st l.store l.account.0) l.index;
      rest : g.S.ByteStore.same_rest l.account.0 l.fn.store l.store;
    }
