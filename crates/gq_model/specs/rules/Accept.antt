-- Which scenarios are accepted, and the budgets of their leaves.
use Rattle.std.specs.Prelude.{◌≡◌, ℕ, zero, suc, nat_le, if◌then◌else◌, Bool, ◌&&◌, List, [], ◌∷◌, ◌++◌, Option, Some, None, codes, decimal, sum}
use Rattle.std.specs.Prelude.{slice_index, slice_index_or}
use Rattle.gq_model.specs.machine.Amounts.{Resource, Ram, Caps, Amount, amount, part, counts_caps}
use Rattle.gq_model.specs.machine.Scenario.{Scenario, System, Component, system}
use Rattle.gq_model.specs.machine.Accounts.{entry, reported}
use Rattle.gq_model.specs.machine.Lists.{or_first, all_of}
use Rattle.gq_model.specs.rules.Budgets.{own}
use Rattle.gq_model.specs.rules.Verdict.{Fault, program_fault, greatest_cost}
use Rattle.gq_model.specs.machine.Step_budgets.{StepBudget}
use Rattle.gq_model.specs.rules.Use.{subject, step_budget}
use Rattle.gq_model.specs.rules.Resolve.{Unresolved, unresolved}

-- why a scenario is refused
pub data Refusal : Type 0 where
  Bad_program : (leaf : List ℕ) (fault : Fault) → Refusal
  Not_resolved : (fault : Unresolved) → Refusal
  Over_own : (resource : Resource) (leaf : List ℕ) (own quantum : ℕ) → Refusal
  Over_steps : (leaf : List ℕ) → Refusal

-- what a leaf uses at most: bytes and capabilities of its own account, and steps
pub record Budget : Type 0 where
  pub own : Amount
  pub steps : StepBudget

-- capabilities are 0 in version 1
abbrev pub budget : ℕ → System → ℕ → Component → Budget
budget version system x c =
    let v = subject system c in record { own = amount (own Ram v) (if counts_caps version then own Caps v else 0); steps = step_budget system x c }

-- the budgets of the leaves from the x-th on
abbrev pub budgets_from : ℕ → System → ℕ → List Component → List Budget
budgets_from version system x [] = []
budgets_from version system x (c ∷ rest) = budget version system x c ∷ budgets_from version system (suc x) rest

abbrev pub budgets : Scenario → List Budget
budgets s = let all = system s in budgets_from s.version all 0 all.components

abbrev pub step_budgets : List Budget → List StepBudget
step_budgets [] = []
step_budgets (b ∷ rest) = b.steps ∷ step_budgets rest

-- REFUSALS

abbrev pub bad_program : List ℕ → Option Fault → Option Refusal
bad_program leaf None = None
bad_program leaf (Some fault) = Some (Bad_program leaf fault)

-- the first leaf whose program is refused
abbrev pub program_refusal : System → List Component → Option Refusal
program_refusal system [] = None
program_refusal system (c ∷ rest) = or_first (bad_program c.node.name (program_fault (subject system c))) (program_refusal system rest)

abbrev pub not_resolved : Option Unresolved → Option Refusal
not_resolved None = None
not_resolved (Some fault) = Some (Not_resolved fault)

-- the first leaf whose own budget is above its quantum
abbrev pub own_refusal : Resource → List Component → List Budget → Option Refusal
own_refusal r (c ∷ rest) (b ∷ budgets) =
    let own = part r b.own in
    let quantum = part r c.node.quantum in
    if nat_le own quantum then own_refusal r rest budgets else Some (Over_own r c.node.name own quantum)
own_refusal r [] budgets = None
own_refusal r (c ∷ rest) [] = None

-- no more steps for the start, nor for any signal, than there may be
abbrev pub is_small : ℕ → Bool
is_small n = nat_le n greatest_cost

abbrev pub are_small : StepBudget → Bool
are_small b = is_small b.from_start && all_of (all_of is_small) b.for_signals

-- the first leaf with a greater budget of steps
abbrev pub steps_refusal : List Component → List Budget → Option Refusal
steps_refusal (c ∷ rest) (b ∷ budgets) = if are_small b.steps then steps_refusal rest budgets else Some (Over_steps c.node.name)
steps_refusal [] budgets = None
steps_refusal (c ∷ rest) [] = None

-- the first reason to refuse a scenario, in this order
abbrev pub refusal : Scenario → Option Refusal
refusal s =
    let all = system s in
    or_first (program_refusal all all.components)
    (or_first (not_resolved (unresolved s))
    (let budgets = budgets s in
    or_first (own_refusal Ram all.components budgets) (or_first (steps_refusal all.components budgets) (own_refusal Caps all.components budgets))))

-- a scenario is accepted where there is none
abbrev pub IsAccepted : Scenario → Type 0
IsAccepted s = refusal s ≡ None

-- BUDGET LINES

abbrev pub budget_line : ℕ → Component → Budget → List ℕ
budget_line version c b =
    codes "budget " ++ c.label ++ entry (codes "own") b.own.ram ++ reported version (entry (codes "caps") b.own.caps)
    ++ entry (codes "steps") b.steps.from_start ++ 10
    ∷ []

abbrev pub budget_lines_of : ℕ → List Component → List Budget → List ℕ
budget_lines_of version (c ∷ rest) (b ∷ budgets) = budget_line version c b ++ budget_lines_of version rest budgets
budget_lines_of version [] budgets = []
budget_lines_of version (c ∷ rest) [] = []

-- the steps of these leaves for the i-th signal of the y-th leaf
abbrev pub steps_of_signal : ℕ → ℕ → List Budget → List ℕ
steps_of_signal y i [] = []
steps_of_signal y i (b ∷ rest) = slice_index (slice_index_or b.steps.for_signals y []) i ∷ steps_of_signal y i rest

-- a signal's line: the steps of its leaf, and those of all leaves
abbrev pub signal_line : ℕ → ℕ → Component → List ℕ → List ℕ
signal_line y i c steps =
    codes "signal " ++ c.label ++ codes " " ++ decimal i ++ entry (codes "steps") (slice_index steps y) ++ entry (codes "all") (sum steps) ++ 10 ∷ []

-- those of a leaf, from the i-th on
abbrev pub signal_lines_of : ℕ → ℕ → ℕ → Component → List Budget → List ℕ
signal_lines_of y i zero c budgets = []
signal_lines_of y i (suc n) c budgets = signal_line y i c (steps_of_signal y i budgets) ++ signal_lines_of y (suc i) n c budgets

-- those of the leaves from the y-th on
abbrev pub signal_lines_from : ℕ → List Component → List Budget → List ℕ
signal_lines_from y [] budgets = []
signal_lines_from y (c ∷ rest) budgets = signal_lines_of y 0 c.node.signals c budgets ++ signal_lines_from (suc y) rest budgets

-- one line for each leaf in preorder, then one for each signal
abbrev pub budget_lines : Scenario → List ℕ
budget_lines s =
    let budgets = budgets s in
    let all = (system s).components in budget_lines_of s.version all budgets ++ signal_lines_from 0 all budgets
