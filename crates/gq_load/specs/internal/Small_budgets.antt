-- Budgets whose steps are no more than there may be.
use Rattle.std.specs.Prelude.{Bool, List}
use Rattle.gq_model.specs.machine.Lists.{all_of}
use Rattle.gq_model.specs.rules.Accept.{Budget, are_small}

-- no leaf may take too many steps
abbrev pub all_small : List Budget → Bool
all_small = all_of (λ b. are_small b.steps)
