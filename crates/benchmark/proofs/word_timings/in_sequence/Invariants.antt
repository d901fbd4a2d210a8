use Rattle.std.proofs.Common.{◌≡◌, length}
use Rattle.gq_dataspace.specs.Dataspaces.{content_of}
use Rattle.benchmark.proofs.word_timings.in_sequence.Given as goal

abbrev pub invariant-loop-round : goal.invariant-loop-round
invariant-loop-round l = length (content_of l.accounts.spaces.spaces l.ds.0) ≡ 1048576
