use Rattle.std.proofs.Common.{◌≡◌, length}
use Rattle.benchmark.proofs.word_timings.in_bytes.Given as goal

abbrev pub invariant-loop-round : goal.invariant-loop-round
invariant-loop-round l = length l.bytes.items ≡ 1048576

abbrev pub invariant-loop-2 : goal.invariant-loop-2
invariant-loop-2 l = length l.bytes.items ≡ 1048576
