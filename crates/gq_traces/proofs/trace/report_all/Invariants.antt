use Rattle.std.proofs.Common.{true}
use Rattle.gq_traces.specs.Traces_written.{prints_all}
use Rattle.gq_traces.proofs.Lines_taken.{LinesPrinted}
use Rattle.gq_traces.proofs.trace.report_all.Given as goal

-- the lines so far were reported
abbrev pub invariant-loop-item : goal.invariant-loop-item
invariant-loop-item g l =
    LinesPrinted g.W.Write.contents (prints_all l.reporting) l.turns l.item-index l.taken l.fn.world l.world l.fn.tracing l.tracing l.fn.out l.out true l.going
