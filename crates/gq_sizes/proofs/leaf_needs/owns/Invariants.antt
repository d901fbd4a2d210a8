use Rattle.std.proofs.Common.{◌≡◌, ◌++◌, drop, map}
use Rattle.gq_model.specs.machine.Amounts.{Ram}
use Rattle.gq_model.specs.machine.Scenario.{System}
use Rattle.gq_model.specs.rules.Budgets.{own}
use Rattle.gq_model.specs.rules.Use.{subject}
use Rattle.gq_sizes.specs.Point_maxima.{given_in}
use Rattle.gq_sizes.specs.Saturated_tables.{IsLeast, own_least}
use Rattle.gq_sizes.proofs.leaf_needs.owns.Given as goal

-- those so far, with those of the leaves that are left, are all
abbrev pub invariant-loop-place : goal.invariant-loop-place
invariant-loop-place l =
    (all : System) → l.leaves ≡ map (subject all) all.components → map (λ b. b.own.ram) l.budgets ≡ map (λ c. own Ram (subject all c)) all.components →
    IsLeast all (given_in l.given.interfaces.now l.given.sums.now) →
    l.owns.items ++ drop l.place (map (own_least all) all.components) ≡ map (own_least all) all.components
