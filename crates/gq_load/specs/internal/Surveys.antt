-- What is kept of the programs of leaves once they are judged.
use Rattle.std.specs.Prelude.{◌≡◌, ℕ, List, map}
use Rattle.gq_model.specs.machine.Amounts.{Amount, Ram, Caps, amount}
use Rattle.gq_model.specs.machine.Scenario.{Interfaces, Component}
use Rattle.gq_model.specs.rules.Budgets.{own}
use Rattle.gq_model.specs.rules.Kinds.{Subject}
use Rattle.gq_model.specs.rules.Use.{services}
use Rattle.gq_budget.specs.Leaf_section_counts.{Counted, AreCountsOf}
use Rattle.gq_budget.specs.Leaf_routes.{BudgetLeaf}
use Rattle.gq_load.specs.internal.Judged_programs.{judged_by}
use Rattle.gq_load.specs.internal.Counted_leaves.{counted_leaves}

-- what a program uses of its own account
abbrev pub own_of : Subject → Amount
own_of v = amount (own Ram v) (own Caps v)

-- a leaf as its steps are counted by
abbrev pub leaf_by : Interfaces → Component → BudgetLeaf
leaf_by interfaces c = record { subject = judged_by interfaces c; provides = c.node.provides }

-- what is kept of each of these leaves
pub record AreSurveys (interfaces : Interfaces) (cs : List Component) (os : List Amount) (ns : List Counted) (names : List (List (List ℕ))) : Type 0 where
  pub owns : os ≡ map (λ c. own_of (judged_by interfaces c)) cs
  pub counted : AreCountsOf ns (counted_leaves interfaces cs)
  pub opened : names ≡ map services cs
