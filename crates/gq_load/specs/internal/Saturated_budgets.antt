-- Budgets as far as numbers of 64 bits keep them.
use Rattle.std.specs.Prelude.{ℕ, suc, ◌==◌, if◌then◌else◌, List, [], ◌∷◌, Option}
use Rattle.gq_model.specs.machine.Lists.{or_first}
use Rattle.gq_model.specs.machine.Amounts.{Amount, Ram, Caps, amount, counts_caps}
use Rattle.gq_model.specs.rules.Kinds.{Subject}
use Rattle.gq_model.specs.machine.Scenario.{System, Component}
use Rattle.gq_model.specs.rules.Budgets.{own}
use Rattle.gq_model.specs.rules.Use.{step_budget}
use Rattle.gq_model.specs.rules.Accept.{Refusal, Budget, own_refusal, steps_refusal}
use Rattle.gq_model.specs.machine.Step_budgets.{StepBudget}
use Rattle.gq_budget.specs.Step_budgets.{kept}
use Rattle.gq_load.specs.internal.Judged_programs.{judged_by}

-- the budget of a program with so many steps; capabilities are 0 in version 1
abbrev pub budget_with : ℕ → Subject → StepBudget → Budget
budget_with version v steps = record { own = amount (own Ram v) (if counts_caps version then own Caps v else 0); steps = steps }

-- the same of one that uses so much of its own account
abbrev pub budget_from : ℕ → Amount → StepBudget → Budget
budget_from version own steps = record { own = amount own.ram (if counts_caps version then own.caps else 0); steps = steps }

-- the budgets of programs that use so much, each with so many steps
abbrev pub budgets_with : ℕ → List Amount → List StepBudget → List Budget
budgets_with version (own ∷ owns) (n ∷ steps) = budget_from version own n ∷ budgets_with version owns steps
budgets_with version [] steps = []
budgets_with version (own ∷ owns) [] = []

-- the budgets of the leaves from the x-th on, with steps of at most the greatest number of 64 bits
abbrev pub kept_from : ℕ → System → ℕ → List Component → List Budget
kept_from version system x [] = []
kept_from version system x (c ∷ rest) = budget_with version (judged_by system.interfaces c) (kept (step_budget system x c))
    ∷ kept_from version system (suc x) rest

-- the first leaf that uses more than it is given, or may take too many steps
abbrev pub budget_refusal : List Component → List Budget → Option Refusal
budget_refusal cs budgets = or_first (own_refusal Ram cs budgets) (or_first (steps_refusal cs budgets) (own_refusal Caps cs budgets))
