-- Leaves by their numbers.
use Rattle.std.proofs.Common.{◌≡◌, ◌∙◌, ◌<◌, ℕ, ap, arith, length}
use Rattle.gq_model.specs.machine.Scenario.{Scenario, components}

-- a number below the count of a table's leaves is below that of the scenario's
pub below : (t s : Scenario) → t ≡ s → (count n : ℕ) → count ≡ length (components t) → n < count → n < length (components s)
below t s same count n is less = let all = is ∙ ap (λ (r : Scenario). length (components r)) same in omega (arith, all, less)

-- and the count itself is that of the scenario's
pub at_end : (t s : Scenario) → t ≡ s → (count n : ℕ) → count ≡ length (components t) → n ≡ count → n ≡ length (components s)
at_end t s same count n is end = end ∙ (is ∙ ap (λ (r : Scenario). length (components r)) same)
