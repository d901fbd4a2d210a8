use Rattle.std.proofs.Common.{◌-◌}
use Rattle.gq_model.specs.machine.Rest.{greatest_turns}
use Rattle.gq_traces.specs.Traces_written.{prints_all}
use Rattle.gq_traces.proofs.Way_taken.{RestPrinted}
use Rattle.gq_traces.proofs.trace.report_rest.Given as goal

-- the turns so far were reported, and it is known what is still to come
abbrev pub invariant-loop-taken : goal.invariant-loop-taken
invariant-loop-taken g l =
    RestPrinted g.W.Write.contents (prints_all l.reporting) l.turns l.from l.taken l.fn.world l.world l.fn.tracing l.tracing l.fn.out l.out l.fn.going l.going

abbrev pub decreases-loop-taken : goal.decreases-loop-taken
decreases-loop-taken g l = greatest_turns - l.taken
