use Rattle.std.proofs.Common.{◌-◌}
use Rattle.gq_model.specs.machine.Rest.{greatest_turns}
use Rattle.gq_traces.proofs.Way_taken.{RestPeaked}
use Rattle.gq_traces.proofs.peaks.take_rest.Given as goal

-- the turns so far were taken, and it is known what is still to come
abbrev pub invariant-loop-taken : goal.invariant-loop-taken
invariant-loop-taken l = RestPeaked l.turns l.from l.taken l.fn.world l.world l.fn.peaks l.peaks

abbrev pub decreases-loop-taken : goal.decreases-loop-taken
decreases-loop-taken l = greatest_turns - l.taken
