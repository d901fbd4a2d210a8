use Rattle.std.proofs.Common.{ℕ, ◌<◌}
use Rattle.gq_trade.specs.Numbers.{IsTaken}
use Rattle.gq_trade.proofs.numbered_values.first_free.Given as goal

abbrev pub invariant-loop-k : goal.invariant-loop-k
invariant-loop-k g l = (j : ℕ) → j < l.k → IsTaken l.places.items j
