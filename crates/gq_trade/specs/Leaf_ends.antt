-- Leaves that end.
use Rattle.std.specs.Prelude.{◌≡◌, ℕ, suc, nat_eq, if◌then◌else◌, Bool, false, List, [], ◌∷◌, Option, Some, None, length, slice_set, ◌<◌, ◌≤◌}
use Rattle.gq_ram.specs.Account_table.{available, available_caps}
use Rattle.gq_ram.specs.Account_tree.{account_of as account_in, parent}
use Rattle.gq_trade.specs.Numbers.{IsTaken}
use Rattle.gq_trade.specs.Trading.{Trading, Leaves, client_of, server_of, handed_on, node_of}
use Rattle.gq_trade.specs.declared.trade_node.NodeState.{NodeState}
use Rattle.gq_trade.specs.declared.trade_node.Stage.{Stage}
use Rattle.gq_trade.specs.declared.trade_node.Stage.TheVariants.{Pending, Live, Ended}
use Rattle.gq_trade.specs.Balances.{node_at}
use Rattle.gq_trade.specs.Trades.{Trades}

abbrev pub with_stage : NodeState → Stage → NodeState
with_stage n s = record { quantum = n.quantum; after = n.after; stage = s }

abbrev pub staged : List NodeState → ℕ → Stage → List NodeState
staged ns i s = slice_set ns i (with_stage (node_at ns i) s)

abbrev pub is_number : ℕ → Option ℕ → Bool
is_number i None = false
is_number i (Some j) = nat_eq j i

abbrev pub if_pending : Stage → Bool → Bool
if_pending Pending b = b
if_pending Live b = false
if_pending Ended b = false

-- it is pending, and starts after the node i
abbrev pub waits_for : ℕ → NodeState → Bool
waits_for i n = if_pending n.stage (is_number i n.after)

-- the first of these nodes, counted from k, that does
abbrev pub follower_from : ℕ → ℕ → List NodeState → Option ℕ
follower_from k i [] = None
follower_from k i (n ∷ ns) = if waits_for i n then Some k else follower_from (suc k) i ns

abbrev pub follower : ℕ → List NodeState → Option ℕ
follower i ns = follower_from 0 i ns

-- the node i is pending, and its init has enough for it
pub record CanStart (w : Trades) (i : ℕ) : Type 0 where
  pub below : 0 < i
  pub there : i < length w.trading.tree.parents
  pub pending : (node_at w.nodes i).stage ≡ Pending
  pub ram : (node_at w.nodes i).quantum.ram ≤ available (account_in w.trading.tree w.trading.ledger (parent w.trading.tree i))
  pub caps : (node_at w.nodes i).quantum.caps ≤ available_caps (account_in w.trading.tree w.trading.ledger (parent w.trading.tree i))

-- a node is live from now on, and has its quantum from its init
abbrev pub started : Trades → Option ℕ → Trades
started w None = w
started w (Some i) = record { trading = handed_on w.trading i (node_at w.nodes i).quantum; nodes = staged w.nodes i Live }

-- no session is from the leaf x, and none is to it
abbrev pub HasNoSessions : Trading → ℕ → Type 0
HasNoSessions w x = (k : ℕ) → IsTaken w.sessions k → (client_of w k ≡ x → ⊥) × (server_of w k ≡ x → ⊥)

-- The account of the leaf x is closed, its quota goes to its init, and the node that starts after it has its quantum.
pub record Ends (w v : Trades) (x : ℕ) : Type 0 where
  pub between : Trading
  pub leaves : Leaves w.trading between x
  pub is :
      let ns = staged w.nodes (node_of w.trading x) Ended in v ≡ started (record { trading = between; nodes = ns }) (follower (node_of w.trading x) ns)
