use Rattle.std.proofs.Common.{◌≡◌, length}
use Rattle.benchmark.proofs.frame_timings.make_and_drop.Given as goal

abbrev pub invariant-loop-pair : goal.invariant-loop-pair
invariant-loop-pair l = length l.kept.items ≡ 4096
