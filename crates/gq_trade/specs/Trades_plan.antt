-- What a `Trades` is made of, and what it is at first.
use Rattle.std.specs.Prelude.{◌≡◌, ℕ, ◌<◌, ◌≤◌, List, [], length, map, get_or, Option, Some, None}
use Rattle.gq_ram.specs.Ledgers.{caps_where, first_ledger, with_accounts}
use Rattle.gq_ram.specs.Account_table.{no_amount}
use Rattle.gq_ram.specs.Account_tree.{Tree, account_of}
use Rattle.gq_ram.specs.Handing.{spent}
use Rattle.gq_trade.specs.declared.trade_node.NodeState.{NodeState}
use Rattle.gq_trade.specs.declared.trade_node.Stage.TheVariants.{Live}
use Rattle.gq_trade.specs.Balances.{handed, node_at}
use Rattle.gq_trade.specs.Trades.{Trades, Follows}

-- the nodes without their accounts
abbrev pub tree_of : List ℕ → Tree
tree_of parents = record { accounts = []; parents = parents }

-- So many bytes and capabilities are handed down these nodes: no init hands on more than it has.
pub record IsPlan (total : ℕ) (caps : Option ℕ) (parents : List ℕ) (ns : List NodeState) (leaves objects : List ℕ) : Type 0 where
  pub some : 1 ≤ length parents
  pub count : length ns ≡ length parents
  pub preorder : (i : ℕ) → 0 < i → i < length parents → get_or parents i 0 < i
  -- the root has all there is
  pub whole : (node_at ns 0).quantum ≡ record { ram = total; caps = caps_where caps }
  pub root : (node_at ns 0).stage ≡ Live
  pub inits : (j : ℕ) → 0 < j → j < length parents → (node_at ns (get_or parents j 0)).stage ≡ Live
  pub fits : (i : ℕ) → i < length parents → spent (λ n. n.ram) (tree_of parents) (map handed ns) i ≤ (handed (node_at ns i)).ram
  pub fits_caps : (i : ℕ) → i < length parents → spent (λ n. n.caps) (tree_of parents) (map handed ns) i ≤ (handed (node_at ns i)).caps
  pub uncounted : caps ≡ None → (i : ℕ) → (node_at ns i).quantum.caps ≡ 0
  -- leaves are nodes of their own, below the root and with no node below them
  pub within : (x : ℕ) → x < length leaves → get_or leaves x 0 < length parents
  pub few : length leaves ≤ 64
  pub below : (x : ℕ) → x < length leaves → 0 < get_or leaves x 0
  pub apart : (x y : ℕ) → x < length leaves → y < length leaves → get_or leaves x 0 ≡ get_or leaves y 0 → x ≡ y
  pub childless : (x j : ℕ) → x < length leaves → 0 < j → j < length parents → get_or parents j 0 ≡ get_or leaves x 0 → ⊥
  pub after : (i j : ℕ) → i < length parents → (node_at ns i).after ≡ Some j → Follows (tree_of parents) ns i j
  pub small : (i : ℕ) → i < length objects → get_or objects i 0 ≤ 67108864

-- no session and no request, and no memory that is used
pub record IsFirst (total : ℕ) (caps : Option ℕ) (ps : List ℕ) (ns : List NodeState) (xs os : List ℕ) (n : ℕ) (w : Trades) : Type 0 where
  pub nodes : w.nodes ≡ ns
  pub parents : w.trading.tree.parents ≡ ps
  pub leaves : w.trading.leaves ≡ xs
  pub objects : w.trading.objects ≡ os
  pub sessions : w.trading.sessions ≡ []
  pub room : w.trading.room ≡ n
  pub requests : w.trading.requests ≡ []
  pub unused : (i : ℕ) → i < length ps → (account_of w.trading.tree w.trading.ledger i).used ≡ no_amount
  pub ledger : w.trading.ledger ≡ with_accounts (first_ledger total caps) w.trading.ledger.accounts
