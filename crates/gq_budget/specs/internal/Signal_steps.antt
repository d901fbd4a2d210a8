-- The steps of leaves for each cause, put together as the budgets of leaves.
use Rattle.std.specs.Prelude.{ℕ, zero, suc, List, [], ◌∷◌, map, get_or}
use Rattle.gq_model.specs.machine.Step_budgets.{StepBudget}
use Rattle.gq_model.specs.rules.Use.{Cause, A_signal}
use Rattle.gq_budget.specs.Leaf_section_counts.{Counted}
use Rattle.gq_budget.specs.internal.Run_rounds.{Used, rounds, budgets_by}

-- the steps of all leaves for one cause
abbrev pub steps_by : List Counted → Used → Cause → List ℕ
steps_by leaves used cause = budgets_by leaves (rounds cause (suc used.longest) used.asks [])

-- those for so many signals of the y-th leaf, from the i-th on
abbrev pub signal_rows : List Counted → Used → ℕ → ℕ → ℕ → List (List ℕ)
signal_rows leaves used y i zero = []
signal_rows leaves used y i (suc n) = steps_by leaves used (A_signal y i) ∷ signal_rows leaves used y (suc i) n

-- those for the signals of these leaves, of which the first is the y-th
abbrev pub signal_tables : List Counted → Used → ℕ → List Counted → List (List (List ℕ))
signal_tables leaves used y [] = []
signal_tables leaves used y (leaf ∷ rest) = signal_rows leaves used y 0 leaf.signals ∷ signal_tables leaves used (suc y) rest

-- the number at a place of each of these
abbrev pub column : ℕ → List (List ℕ) → List ℕ
column x rows = map (λ r. get_or r x 0) rows

-- the budgets of the leaves from the x-th on, which take so many steps for the start
abbrev pub joined : ℕ → List ℕ → List (List (List ℕ)) → List StepBudget
joined x [] tables = []
joined x (n ∷ rest) tables = record { from_start = n; for_signals = map (column x) tables } ∷ joined (suc x) rest tables
