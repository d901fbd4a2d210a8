-- Scenarios of whose leaves the first serves the others: before there is a session, and with one.
use Rattle.std.specs.Prelude.{◌≡◌, ℕ, ◌<◌, List, [], ◌∷◌, Some, None, length, get_or}
use Rattle.gq_tariff.specs.declared.amount.Amount.{Amount}
use Rattle.gq_store.specs.declared.AccountNo.{AccountNo}
use Rattle.gq_ram.specs.Account_tree.{Tree, number}
use Rattle.gq_trade.specs.declared.requests.Ask.TheVariants.{Open}
use Rattle.gq_trade.specs.declared.requests.Request.{Request}
use Rattle.gq_contents.specs.declared.content.Content.{Content}
use Rattle.gq_contents.specs.Contents.{IsSlice}
use Rattle.gq_trade.specs.declared.session.Session.{Session}
use Rattle.gq_trade.specs.declared.session.SlotId.TheVariants.{InLeaf}
use Rattle.gq_trade.specs.Trading.{Trading, fresh, opened, store_of}
use Rattle.gq_trade.specs.declared.trade_node.NodeState.{NodeState}
use Rattle.gq_trade.specs.declared.trade_node.Stage.TheVariants.{Live, Pending}
use Rattle.gq_trade.specs.Balances.{node_at}
use Rattle.gq_trade.specs.Trades.{Trades}

-- a node that has its quantum, and one that starts once another has ended
abbrev pub live_node : ℕ → ℕ → NodeState
live_node ram caps = record { quantum = record { ram = ram; caps = caps }; after = None; stage = Live }

abbrev pub pending_node : ℕ → ℕ → NodeState
pending_node ram i = record { quantum = record { ram = ram; caps = 0 }; after = Some i; stage = Pending }

-- what no session changes
pub record Setting : Type 0 where
  pub tree : Tree
  pub leaves : List ℕ
  pub objects : List ℕ
  pub room : ℕ

abbrev pub setting : Trading → Setting
setting w = record { tree = w.tree; leaves = w.leaves; objects = w.objects; room = w.room }

-- the leaf x is live, and its node is one of the tree
pub record IsThere (ns : List NodeState) (g : Setting) (x : ℕ) : Type 0 where
  pub leaf : x < length g.leaves
  pub live : (node_at ns (get_or g.leaves x 0)).stage ≡ Live
  pub node : get_or g.leaves x 0 < length g.tree.parents

-- a server and a client, a service and room for so many sessions
pub record IsReady (ns : List NodeState) (g : Setting) (n : ℕ) : Type 0 where
  pub server : IsThere ns g 0
  pub client : IsThere ns g 1
  pub service : 0 < length g.objects
  pub room : n < g.room

abbrev pub AreReady : Trades → Type 0
AreReady w = IsReady w.nodes (setting w.trading) 0

-- there is no session, and no request
pub record IsQuiet (w : Trades) : Type 0 where
  pub sessions : w.trading.sessions ≡ []
  pub requests : w.trading.requests ≡ []

-- and the accounts of both
pub record AreOf (ns : List NodeState) (g : Setting) (a b : AccountNo) : Type 0 where
  pub ready : IsReady ns g 0
  pub server : number g.tree (get_or g.leaves 0 0) ≡ a.0
  pub client : number g.tree (get_or g.leaves 1 0) ≡ b.0

abbrev pub AreParties : Trades → AccountNo → AccountNo → Type 0
AreParties w a b = AreOf w.nodes (setting w.trading) a b

abbrev pub session_of : Amount → Session
session_of n = fresh 1 (InLeaf 1 0) 0 0 n

abbrev pub request_of : ℕ → Request
request_of k = record { session = k; server = 0; ask = Open }

-- the client has asked for a session
pub record HasAsked (w : Trades) : Type 0 where
  pub donation : Amount
  pub sessions : w.trading.sessions ≡ Some (session_of donation) ∷ []
  pub requests : w.trading.requests ≡ request_of 0 ∷ []

-- it has a session, and the server has paid for the session's object
pub record HasOne (w : Trades) : Type 0 where
  pub donation : Amount
  pub object : Content
  pub sessions : w.trading.sessions ≡ Some (opened (session_of donation) object) ∷ []
  pub requests : w.trading.requests ≡ []
  pub slice : IsSlice (store_of w.trading 0) object

-- three leaves of which none has a session, and their nodes behind the root's
pub record IsLine (w : Trades) (ns : List NodeState) : Type 0 where
  pub nodes : w.nodes ≡ ns
  pub leaves : w.trading.leaves ≡ 1 ∷ 2 ∷ 3 ∷ []
  pub sessions : w.trading.sessions ≡ []

-- three live leaves, a service and room for two sessions, of which there is none
pub record IsTrio (w : Trades) : Type 0 where
  pub leaves : 2 < length w.trading.leaves
  pub live : (x : ℕ) → x < 3 → (node_at w.nodes (get_or w.trading.leaves x 0)).stage ≡ Live
  pub service : 0 < length w.trading.objects
  pub room : 1 < w.trading.room
  pub quiet : IsQuiet w
