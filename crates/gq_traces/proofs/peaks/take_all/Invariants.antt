use Rattle.gq_traces.proofs.Lines_taken.{LinesPeaked}
use Rattle.gq_traces.proofs.peaks.take_all.Given as goal

-- the lines so far were taken
abbrev pub invariant-loop-item : goal.invariant-loop-item
invariant-loop-item l = LinesPeaked l.turns l.item-index l.taken l.fn.world l.world l.fn.peaks l.peaks
