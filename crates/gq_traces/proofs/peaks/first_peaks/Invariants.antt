use Rattle.std.proofs.Common.{◌≡◌, length}
use Rattle.gq_traces.specs.internal.Peaking.{AllNow}
use Rattle.gq_traces.proofs.peaks.first_peaks.Given as goal

-- what the leaves so far use
abbrev pub invariant-loop-number : goal.invariant-loop-number
invariant-loop-number l = record {
  long : length l.peaks.items ≡ l.number;
  now : AllNow l.world.scenario l.world.world 0 l.peaks.items;
}
