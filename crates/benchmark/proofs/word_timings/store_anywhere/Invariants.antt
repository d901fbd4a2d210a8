use Rattle.std.proofs.Common.{◌≡◌, length}
use Rattle.gq_dataspace.specs.Dataspaces.{content_of}
use Rattle.benchmark.proofs.word_timings.store_anywhere.Given as goal

abbrev pub invariant-loop-word : goal.invariant-loop-word
invariant-loop-word l = length (content_of l.accounts.spaces.spaces l.ds.0) ≡ 1048576
