use Rattle.std.proofs.Common.{ℕ, ◌<◌}
use Rattle.gq_region.specs.Region_places.{IsTaken}
use Rattle.gq_region.proofs.map.first_free.Given as goal

abbrev pub invariant-loop-k : goal.invariant-loop-k
invariant-loop-k l = (j : ℕ) → j < l.k → IsTaken l.places.items j
