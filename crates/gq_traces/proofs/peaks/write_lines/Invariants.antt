use Rattle.std.proofs.Common.{true}
use Rattle.gq_traces.proofs.Printed_peaks.{Lines_so_far}
use Rattle.gq_traces.proofs.peaks.write_lines.Given as goal

-- the lines so far were written
abbrev pub invariant-loop-number : goal.invariant-loop-number
invariant-loop-number g l = Lines_so_far g.W.Write.contents l.world.scenario l.peaks l.fn.out l.out true l.going l.number
