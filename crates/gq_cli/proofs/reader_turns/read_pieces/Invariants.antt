-- What came is what the reader gave.
use Rattle.std.proofs.Common.{◌≤◌, ◌-◌}
use Rattle.gq_cli.specs.internal.Running.{HasCome}
use Rattle.gq_cli.proofs.reader_turns.read_pieces.Given as goal

abbrev pub invariant-loop-buffer : goal.invariant-loop-buffer
invariant-loop-buffer g l = record {
  within : l.turns.size ≤ 18874369;
  come : HasCome l.table (g.R.Read.remaining l.initial.reader) (g.R.Read.remaining l.reader) l.initial.turns l.turns;
}

abbrev pub decreases-loop-buffer : goal.decreases-loop-buffer
decreases-loop-buffer g l = 18874369 - l.turns.size
