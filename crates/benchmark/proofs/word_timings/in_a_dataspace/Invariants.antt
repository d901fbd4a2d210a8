use Rattle.std.proofs.Common.{◌≡◌, length}
use Rattle.gq_dataspace.specs.Dataspaces.{content_of}
use Rattle.benchmark.proofs.word_timings.in_a_dataspace.Given as goal

abbrev pub invariant-loop : goal.invariant-loop
invariant-loop l = length (content_of l.accounts.spaces.spaces l.ds.0) ≡ 1048576
