-- The step budgets of leaves, kept as far as they go.
use Rattle.std.specs.Prelude.{ℕ, suc, List, [], ◌∷◌, map}
use Rattle.gq_model.specs.machine.Scenario.{System, Component}
use Rattle.gq_model.specs.machine.Step_budgets.{StepBudget}
use Rattle.gq_model.specs.rules.Use.{step_budget}
use Rattle.gq_verify.specs.Saturated_numbers.{saturated}

-- each number of a budget
abbrev pub kept : StepBudget → StepBudget
kept b = record { from_start = saturated b.from_start; for_signals = map (map saturated) b.for_signals }

-- the step budgets of the leaves from the x-th on
abbrev pub budgets_from : System → ℕ → List Component → List StepBudget
budgets_from system x [] = []
budgets_from system x (c ∷ rest) = kept (step_budget system x c) ∷ budgets_from system (suc x) rest

-- the step budgets of all leaves
abbrev pub budgets_of : System → List StepBudget
budgets_of system = budgets_from system 0 system.components
