-- Sessions over accounts whose balances are sums.
use Rattle.std.specs.Prelude.{◌≡◌, ℕ, ◌<◌, ◌≤◌, List, length, Some, get_or}
use Rattle.gq_ram.specs.Account_table.{Entries, account_at, IsOpen}
use Rattle.gq_ram.specs.Account_tree.{Tree, number, parent}
use Rattle.gq_trade.specs.Numbers.{IsTaken, free_number}
use Rattle.gq_trade.specs.declared.session.Session.{Session}
use Rattle.gq_trade.specs.Trading.{Trading, SameButMemory as SameTrading, session_in}
use Rattle.gq_trade.specs.declared.trade_node.NodeState.{NodeState}
use Rattle.gq_trade.specs.declared.trade_node.Stage.TheVariants.{Live, Ended}
use Rattle.gq_trade.specs.Balances.{IsEven, node_at}
use Rattle.gq_trade.specs.Waiting.{AreApart, IsBounded, IsIdle, clients, upgrades}

-- sessions with their memory, and the nodes in preorder
pub record Trades : Type 0 where
  pub trading : Trading
  pub nodes : List NodeState

abbrev pub with_trading : Trades → Trading → Trades
with_trading w v = record { trading = v; nodes = w.nodes }

-- the leaf x has its quantum
pub record IsLive (w : Trades) (x : ℕ) : Type 0 where
  pub there : x < length w.trading.leaves
  pub live : (node_at w.nodes (get_or w.trading.leaves x 0)).stage ≡ Live

-- client and server of a session are live, and two leaves, and its service is one of those that there are
pub record AreParties (w : Trades) (s : Session) : Type 0 where
  pub client : IsLive w s.client
  pub server : IsLive w s.server
  pub apart : s.client ≡ s.server → ⊥
  pub service : s.service < length w.trading.objects
  -- where capabilities are not counted none are given for it
  pub counted : w.trading.ledger.price ≡ 0 → s.donation.caps ≡ 0

-- the leaf x can ask the leaf y for a session: both are live, no request of x waits, and a number is free
pub record CanAskServer (w : Trades) (x y : ℕ) : Type 0 where
  pub client : IsLive w x
  pub server : IsLive w y
  pub apart : x ≡ y → ⊥
  pub room : free_number w.trading.sessions < w.trading.room
  pub idle : IsIdle w.trading x

-- the node i has not ended
pub record HasAccount (w : Trades) (i : ℕ) : Type 0 where
  pub there : i < length w.trading.tree.parents
  pub stays : (node_at w.nodes i).stage ≡ Ended → ⊥

-- WHAT HOLDS

-- the node i stands beside the node j, below the root, and has no greater quantum
pub record Follows (t : Tree) (ns : List NodeState) (i j : ℕ) : Type 0 where
  pub below : 0 < i
  pub before : 0 < j
  pub there : j < length t.parents
  pub beside : parent t i ≡ parent t j
  pub ram : (node_at ns i).quantum.ram ≤ (node_at ns j).quantum.ram
  pub caps : (node_at ns i).quantum.caps ≤ (node_at ns j).quantum.caps

-- the nodes, their accounts, and which of them are leaves
pub record AreSettled (t : Tree) (leaves : List ℕ) (ns : List NodeState) (es : Entries) : Type 0 where
  pub count : length ns ≡ length t.parents
  -- a leaf is below an init, and no node is below it
  pub below : (x : ℕ) → x < length leaves → 0 < get_or leaves x 0
  pub childless : (x j : ℕ) → x < length leaves → 0 < j → j < length t.parents → parent t j ≡ get_or leaves x 0 → ⊥
  -- an init is live
  pub root : (node_at ns 0).stage ≡ Live
  pub inits : (j : ℕ) → 0 < j → j < length t.parents → (node_at ns (parent t j)).stage ≡ Live
  -- the account of a node that has not ended is open, and the reference account of no other where it is a leaf
  pub opened : (i : ℕ) → i < length t.parents → ((node_at ns i).stage ≡ Ended → ⊥) → IsOpen es (number t i)
  -- a node starts after one beside it that has enough for it
  pub after : (i j : ℕ) → i < length t.parents → (node_at ns i).after ≡ Some j → Follows t ns i j
  pub alone : (x k : ℕ) → x < length leaves → (account_at es k).reference ≡ Some (record { 0 = number t (get_or leaves x 0) }) → ⊥

-- client and server of a session are live, and where capabilities are not counted none are given
pub record IsSettled (leaves : List ℕ) (ns : List NodeState) (price : ℕ) (s : Session) : Type 0 where
  pub client : (node_at ns (get_or leaves s.client 0)).stage ≡ Live
  pub server : (node_at ns (get_or leaves s.server 0)).stage ≡ Live
  pub counted : price ≡ 0 → s.donation.caps ≡ 0

pub record IsTrades (w : Trades) : Type 0 where
  -- where capabilities are not counted, no node is given any
  pub uncounted : w.trading.ledger.price ≡ 0 → (i : ℕ) → (node_at w.nodes i).quantum.caps ≡ 0
  pub settled : AreSettled w.trading.tree w.trading.leaves w.nodes w.trading.ledger.accounts
  pub sessions : (k : ℕ) → IsTaken w.trading.sessions k
      → IsSettled w.trading.leaves w.nodes w.trading.ledger.price (session_in w.trading.sessions k)
  -- each leaf has one request at most
  pub few : length w.trading.leaves ≤ 64
  pub asks : AreApart (clients w.trading)
  pub given : (k : ℕ) → IsTaken w.trading.sessions k → IsBounded (session_in w.trading.sessions k) (upgrades k w.trading.requests)
  -- of bytes and of capabilities
  pub even : (i : ℕ) → i < length w.trading.tree.parents → IsEven (λ n. n.ram) w.trading w.nodes i × IsEven (λ n. n.caps) w.trading w.nodes i

-- As a store of the account a, it changes this account's memory alone.
pub record SameButMemory (a : ℕ) (w v : Trades) : Type 0 where
  pub trading : SameTrading a w.trading v.trading
  pub nodes : v.nodes ≡ w.nodes
