-- The accounts of all nodes, their lines, and the text of a run.
use Rattle.std.specs.Prelude.{ℕ, suc, ◌+◌, ◌-◌, ◌^◌, nat_lt, if◌then◌else◌, List, [], ◌∷◌, ◌++◌, Option, Some, None, slice_get, slice_index, decimal, codes}
use Rattle.gq_model.specs.machine.Amounts.{Resource, Ram, Caps, Amount, amount, part, counts_caps}
use Rattle.gq_model.specs.machine.Scenario.{Scenario, Component, Nodes, End, Leaf_node, Init_node, System, system, below}
use Rattle.gq_model.specs.machine.World.{Phase, Pending, Running, Blocked, Serving, Handling, Exited, Leaf, World}
use Rattle.gq_model.specs.machine.Sums.{handed, held, quota}
use Rattle.gq_model.specs.machine.Doing.{Wrong}
use Rattle.gq_model.specs.machine.Run.{Ran, Acts, run}
use Rattle.gq_model.specs.machine.Step_budgets.{StepBudget, all_steps_in}

abbrev pub phase_word : Phase → List ℕ
phase_word Pending = codes "pending"
phase_word Running = codes "running"
phase_word Blocked = codes "blocked"
phase_word Serving = codes "serving"
phase_word Handling = codes "handling"
phase_word Exited = codes "exited"

abbrev pub leaf_count : Nodes → ℕ
leaf_count End = 0
leaf_count (Leaf_node node rest) = suc (leaf_count rest)
leaf_count (Init_node node children rest) = leaf_count children + leaf_count rest

abbrev pub handed_to : Option Leaf → ℕ → ℕ
handed_to None quantum = 0
handed_to (Some leaf) quantum = handed leaf.phase quantum

-- the quanta of the live ones among these nodes, whose first leaf is the x-th
abbrev pub spent : Resource → World → ℕ → Nodes → ℕ
spent r w x End = 0
spent r w x (Leaf_node node rest) = handed_to (slice_get w.leaves x) (part r node.quantum) + spent r w (suc x) rest
spent r w x (Init_node node children rest) = part r node.quantum + spent r w (x + leaf_count children) rest

-- an init has what it has not handed to its live children
abbrev pub init_quota : Resource → World → ℕ → Amount → Nodes → ℕ
init_quota r w x quantum children = part r quantum - spent r w x children

-- ACCOUNTS

-- what a leaf holds, its steps of its budget, and what it does
pub record LeafAccount : Type 0 where
  pub used : Amount
  pub steps : ℕ
  pub budget : ℕ
  pub phase : Phase

-- a node's quota; an init has no more than that
pub record Account : Type 0 where
  pub label : List ℕ
  pub quota : Amount
  pub leaf : Option LeafAccount

-- capabilities are 0 in version 1
abbrev pub amount_in : ℕ → ℕ → ℕ → Amount
amount_in version ram caps = amount ram (if counts_caps version then caps else 0)

abbrev pub init_account : ℕ → World → ℕ → List ℕ → Amount → Nodes → Account
init_account version w x label quantum children =
    record { label = label; quota = amount_in version (init_quota Ram w x quantum children) (init_quota Caps w x quantum children); leaf = None }

abbrev pub leaf_account : ℕ → World → ℕ → Component → Leaf → ℕ → Account
leaf_account version w x c leaf budget =
    record {
      label = c.label;
      quota = amount_in version (quota Ram w x c leaf) (quota Caps w x c leaf);
      leaf =
          Some (record {
            used = amount_in version (held Ram w x leaf) (held Caps w x leaf);
            steps = leaf.steps;
            budget = budget;
            phase = leaf.phase;
          });
    }

-- the account of a leaf that is there
abbrev pub account_at : ℕ → World → ℕ → Option Component → Option Leaf → ℕ → List Account
account_at version w x (Some c) (Some leaf) budget = leaf_account version w x c leaf budget ∷ []
account_at version w x (Some c) None budget = []
account_at version w x None leaf budget = []

-- the accounts of these nodes in preorder, whose first leaf is the x-th
abbrev pub node_accounts : ℕ → System → World → List ℕ → ℕ → List ℕ → Nodes → List Account
node_accounts version system w budgets x label End = []
node_accounts version system w budgets x label (Leaf_node node rest) =
    account_at version w x (slice_get system.components x) (slice_get w.leaves x) (slice_index budgets x)
    ++ node_accounts version system w budgets (suc x) label rest
node_accounts version system w budgets x label (Init_node node children rest) =
    init_account version w x (below label node.name) node.quantum children
    ∷ node_accounts version system w budgets x (below label node.name) children
    ++ node_accounts version system w budgets (x + leaf_count children) label rest

-- the accounts of all nodes in preorder, the root's first, by these step budgets
abbrev pub accounts : Scenario → World → List ℕ → List Account
accounts s w budgets =
    init_account s.version w 0 (codes "init") s.total s.nodes ∷ node_accounts s.version (system s) w budgets 0 (codes "init") s.nodes

-- LINES

-- steps are stored in 64 bits, and stay at the greatest number once there
abbrev pub shown : ℕ → ℕ
shown n = if nat_lt n (2 ^ 64) then n else 2 ^ 64 - 1

-- a word and a number
abbrev pub entry : List ℕ → ℕ → List ℕ
entry word n = codes " " ++ word ++ codes " " ++ decimal n

-- capabilities are printed where they are counted
abbrev pub reported : ℕ → List ℕ → List ℕ
reported version text = if counts_caps version then text else []

abbrev pub leaf_entries : Option LeafAccount → List ℕ
leaf_entries None = []
leaf_entries (Some a) =
    entry (codes "steps") (shown a.steps) ++ codes "/" ++ decimal (shown a.budget) ++ codes " " ++ phase_word a.phase

-- what a leaf has used of each
abbrev pub used_entry : List ℕ → (Amount → ℕ) → Option LeafAccount → List ℕ
used_entry word f None = []
used_entry word f (Some a) = entry word (f a.used)

abbrev pub account_line : ℕ → Account → List ℕ
account_line version a =
    codes "account " ++ a.label ++ entry (codes "quota") a.quota.ram ++ used_entry (codes "used") (λ u. u.ram) a.leaf
    ++ reported version (entry (codes "caps") a.quota.caps ++ used_entry (codes "taken") (λ u. u.caps) a.leaf)
    ++ leaf_entries a.leaf ++ 10 ∷ []

abbrev pub account_lines : ℕ → List Account → List ℕ
account_lines version [] = []
account_lines version (a ∷ rest) = account_line version a ++ account_lines version rest

-- the lines of a run, and the accounts at its end where no step was wrong
abbrev pub text_of : Scenario → List StepBudget → Ran → Option (ℕ × Wrong) → List ℕ
text_of s budgets ran None = ran.text ++ account_lines s.version (accounts s ran.world (all_steps_in ran.world budgets))
text_of s budgets ran (Some p) = ran.text

abbrev pub whole : Scenario → List StepBudget → Acts → List ℕ
whole s budgets acts = let ran = run (system s) acts in text_of s budgets ran ran.wrong
