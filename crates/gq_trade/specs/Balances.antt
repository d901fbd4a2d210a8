-- What a node was handed, has lent and was given, and the quota that is left of it.
use Rattle.std.specs.Prelude.{◌≡◌, ℕ, ◌+◌, List, Option, Some, None, map, get_or, sum_by, nat_eq, if◌then◌else◌}
use Rattle.gq_tariff.specs.declared.amount.Amount.{Amount}
use Rattle.gq_ram.specs.Account_table.{no_amount}
use Rattle.gq_ram.specs.Handing.{spent}
use Rattle.gq_trade.specs.declared.session.Session.{Session}
use Rattle.gq_trade.specs.Trading.{Trading}
use Rattle.gq_ram.specs.Account_tree.{account_of}
use Rattle.gq_trade.specs.declared.trade_node.NodeState.{NodeState}
use Rattle.gq_trade.specs.declared.trade_node.Stage.{Stage}
use Rattle.gq_trade.specs.declared.trade_node.Stage.TheVariants.{Pending, Live, Ended}

abbrev pub no_node : NodeState
no_node = record { quantum = no_amount; after = None; stage = Pending }

abbrev pub node_at : List NodeState → ℕ → NodeState
node_at ns i = get_or ns i no_node

abbrev pub while_live : Stage → Amount → Amount
while_live Pending n = no_amount
while_live Live n = n
while_live Ended n = no_amount

-- what a node has been handed and has not given back: its quantum while it is live
abbrev pub handed : NodeState → Amount
handed n = while_live n.stage n.quantum

-- n for the node i where that is j
abbrev pub for_node : ℕ → ℕ → ℕ → ℕ
for_node j i n = if nat_eq j i then n else 0

-- what the node i gave for a session, as its client
abbrev pub lent_for : (Amount → ℕ) → List ℕ → ℕ → Option Session → ℕ
lent_for f leaves i None = 0
lent_for f leaves i (Some s) = for_node (get_or leaves s.client 0) i (f s.donation)

-- what the node i was given for a session, as its server
abbrev pub received_for : (Amount → ℕ) → List ℕ → ℕ → Option Session → ℕ
received_for f leaves i None = 0
received_for f leaves i (Some s) = for_node (get_or leaves s.server 0) i (f s.donation)

abbrev pub lent : (Amount → ℕ) → Trading → ℕ → ℕ
lent f w i = sum_by (lent_for f w.leaves i) w.sessions

abbrev pub received : (Amount → ℕ) → Trading → ℕ → ℕ
received f w i = sum_by (received_for f w.leaves i) w.sessions

-- the stored quota of a node
abbrev pub quota : (Amount → ℕ) → Trading → ℕ → ℕ
quota f w i = f (account_of w.tree w.ledger i).quota

-- what its memory costs
abbrev pub use_of : (Amount → ℕ) → Trading → ℕ → ℕ
use_of f w i = f (account_of w.tree w.ledger i).used

-- The quota of the node i, what it has lent and what it has handed on are together what it was handed and has received.
abbrev pub IsEven : (Amount → ℕ) → Trading → List NodeState → ℕ → Type 0
IsEven f w ns i = quota f w i + lent f w i + spent f w.tree (map handed ns) i ≡ f (handed (node_at ns i)) + received f w i
