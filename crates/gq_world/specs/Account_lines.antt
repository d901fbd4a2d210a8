-- The accounts of a world, and their lines.
use Rattle.std.specs.Prelude.{◌≡◌, ℕ, List, [], ◌∷◌, Some, slice_get, slice_index}
use Rattle.gq_model.specs.machine.Scenario.{Scenario, Component, components}
use Rattle.gq_model.specs.machine.World as model
use Rattle.gq_model.specs.machine.World.{Leaf}
use Rattle.gq_model.specs.rules.Accept.{budgets, step_budgets}
use Rattle.gq_model.specs.machine.Accounts.{LeafAccount, Account, leaf_account, accounts, account_lines, shown}
use Rattle.gq_model.specs.machine.Step_budgets.{StepBudget, steps_in}
use Rattle.gq_world.specs.World_between_turns.{World}

-- the accounts of all nodes, by these step budgets
unfoldable pub accounts_by : Scenario → model.World → List ℕ → List Account
accounts_by s w reported = accounts s w reported

-- step budgets in a world, as 64 bits store them: they stay at the greatest number once there
abbrev pub stored_budgets : model.World → List StepBudget → List ℕ
stored_budgets w [] = []
stored_budgets w (b ∷ rest) = shown (steps_in w b) ∷ stored_budgets w rest

-- those of a world, with the step budgets of the scenario in it
unfoldable pub all_accounts : World → List Account
all_accounts w = accounts_by w.scenario w.world (stored_budgets w.world (step_budgets (budgets w.scenario)))

-- their lines
abbrev pub accounts_text : World → List ℕ
accounts_text w = account_lines w.scenario.version (all_accounts w)

-- what is reported of the x-th leaf beside its quota
abbrev pub ReportsOf : Scenario → model.World → List ℕ → ℕ → LeafAccount → Type 0
ReportsOf s w reported x a =
    (c : Component) → (leaf : Leaf) → slice_get (components s) x ≡ Some c → slice_get w.leaves x ≡ Some leaf
    → (leaf_account s.version w x c leaf (slice_index reported x)).leaf ≡ Some a
