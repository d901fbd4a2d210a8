use Rattle.std.proofs.Common.{◌-◌}
use Rattle.gq_traces.proofs.Way_taken.{RestFollowed}
use Rattle.gq_traces.proofs.follow.take_rest.Given as goal

-- the turns so far were taken, and it is known what is still to come
abbrev pub invariant-loop-taken : goal.invariant-loop-taken
invariant-loop-taken l = RestFollowed l.from l.taken l.all l.most l.fn.world l.world l.fn.followed l.followed

abbrev pub decreases-loop-taken : goal.decreases-loop-taken
decreases-loop-taken l = l.all - l.taken
