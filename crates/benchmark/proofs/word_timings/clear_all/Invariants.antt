use Rattle.std.proofs.Common.{◌≡◌, length}
use Rattle.gq_dataspace.specs.Dataspaces.{content_of}
use Rattle.benchmark.proofs.word_timings.clear_all.Given as goal

abbrev pub invariant-loop-block : goal.invariant-loop-block
invariant-loop-block l = length (content_of l.accounts.spaces.spaces l.ds.0) ≡ 1048576
