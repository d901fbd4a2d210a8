use Rattle.std.proofs.Common.{arith}
use Rattle.gq_pool.proofs.Pool_removal.{none_cleared, pool_still, one_more_cleared, table_left, ends}
use Rattle.gq_pool.proofs.pool.Pool.end.Goals as goal

pub loop-index-init : goal.loop-index-init
loop-index-init g c = record { cleared = none_cleared _ _ _; rest = g.met.S.ByteStore.rest_refl _ _ }

pub give-requires-clause-kept : goal.give-requires-clause-kept
give-requires-clause-kept g c = pool_still _ _ _ _ _ _ c.requires c.loop-index.invariant.cleared

pub loop-index-preserved : goal.loop-index-preserved
loop-index-preserved g c = record {
  cleared = one_more_cleared _ _ _ _ _ _ _ c.loop-index.index c.give.result c.loop-index-test.true c.loop-index.invariant.cleared c.give.ensures.gives;
  rest = g.met.S.ByteStore.rest_trans _ _ _ _ c.loop-index.invariant.rest c.give.ensures.rest;
}

pub shrink-requires : goal.shrink-requires
shrink-requires g c = rw c.new.ensures (table_left _ _ _ _ _ _ c.requires c.loop-index.invariant.cleared)

pub returns-clause-ends : goal.returns-clause-ends
returns-clause-ends g c =
    ends _ _ _ _ _ _ c.loop-index.index (omega (arith, c.loop-index-test.false, c.loop-index.auto)) c.loop-index.invariant.cleared
    (rw c.new.ensures at c.shrink.ensures.shrunk) c.requires
