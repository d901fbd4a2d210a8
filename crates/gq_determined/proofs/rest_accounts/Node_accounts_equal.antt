-- The accounts of all nodes are the same where those of all leaves are, and their phases.
use Rattle.std.proofs.Common.{◌≡◌, ℕ, suc, ◌+◌, ◌-◌, List, ◌∷◌, ◌++◌, None, refl}
use Rattle.std.specs.Prelude.{codes, slice_get, slice_index}
use Rattle.gq_model.specs.machine.Amounts.{Resource, Ram, Caps, Amount, part}
use Rattle.gq_model.specs.machine.Scenario.{Scenario, Nodes, End, Leaf_node, Init_node, System, system, below}
use Rattle.gq_model.specs.machine.World.{World}
use Rattle.gq_model.specs.machine.Accounts.{account_at, accounts, amount_in, handed_to, init_account, leaf_count, node_accounts, spent}

module _ (version : ℕ) (system : System) (budgets : List ℕ) (w v : World)
    (leaf_same : (y budget : ℕ) → account_at version v y (slice_get system.components y) (slice_get v.leaves y) budget
    ≡ account_at version w y (slice_get system.components y) (slice_get w.leaves y) budget)
    (handed_same : (y quantum : ℕ) → handed_to (slice_get v.leaves y) quantum ≡ handed_to (slice_get w.leaves y) quantum) where
  spent_same : (r : Resource) (x : ℕ) (nodes : Nodes) → spent r v x nodes ≡ spent r w x nodes
  spent_same r x End = refl
  spent_same r x (Leaf_node node rest) = λ i. handed_same x (part r node.quantum) i + spent_same r (suc x) rest i
  spent_same r x (Init_node node children rest) = λ i. part r node.quantum + spent_same r (x + leaf_count children) rest i

  pub init_same : (x : ℕ) (label : List ℕ) (quantum : Amount) (children : Nodes)
      → init_account version v x label quantum children ≡ init_account version w x label quantum children
  init_same x label quantum children =
      λ i. record {
        label = label;
        quota = amount_in version (part Ram quantum - spent_same Ram x children i) (part Caps quantum - spent_same Caps x children i);
        leaf = None;
      }

  pub nodes_same : (x : ℕ) (label : List ℕ) (nodes : Nodes)
      → node_accounts version system v budgets x label nodes ≡ node_accounts version system w budgets x label nodes
  nodes_same x label End = refl
  nodes_same x label (Leaf_node node rest) = λ i. leaf_same x (slice_index budgets x) i ++ nodes_same (suc x) label rest i
  nodes_same x label (Init_node node children rest) =
      λ i. (init_same x (below label node.name) node.quantum children i ∷ nodes_same x (below label node.name) children i)
      ++ nodes_same (x + leaf_count children) label rest i

pub accounts_same : (s : Scenario) (budgets : List ℕ) (w v : World)
    → ((version y budget : ℕ) → account_at version v y (slice_get (system s).components y) (slice_get v.leaves y) budget
    ≡ account_at version w y (slice_get (system s).components y) (slice_get w.leaves y) budget)
    → ((y quantum : ℕ) → handed_to (slice_get v.leaves y) quantum ≡ handed_to (slice_get w.leaves y) quantum) → accounts s v budgets ≡ accounts s w budgets
accounts_same s budgets w v leaf_same handed_same =
    λ i. init_same s.version (system s) budgets w v (leaf_same s.version) handed_same 0 (codes "init") s.total s.nodes i
    ∷ nodes_same s.version (system s) budgets w v (leaf_same s.version) handed_same 0 (codes "init") s.nodes i
