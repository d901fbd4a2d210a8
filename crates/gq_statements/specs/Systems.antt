-- Which systems and frames go with slots, and what holds of slots between two calls.
use Rattle.std.specs.Prelude.{◌≡◌, ℕ, ◌<◌, ◌==◌, if◌then◌else◌, List, [], ◌∷◌, length, slice_get, Some}
use Rattle.gq_model.specs.machine.Amounts.{Resource, Ram, Caps}
use Rattle.gq_model.specs.machine.Scenario.{System, Component}
use Rattle.gq_model.specs.declared.phase.Phase.{Phase}
use Rattle.gq_model.specs.declared.phase.Phase.TheVariants as phase
use Rattle.gq_ram.specs.Ledgers.{IsBalanced}
use Rattle.gq_trade.specs.Trading.{IsTrading, node_of}
use Rattle.gq_trade.specs.declared.trade_node.Stage.{Stage}
use Rattle.gq_trade.specs.declared.trade_node.Stage.TheVariants.{Pending, Live, Ended}
use Rattle.gq_trade.specs.Balances.{node_at}
use Rattle.gq_trade.specs.Trades.{IsTrades}
use Rattle.gq_slots.specs.Slots.{ArePaidFor, AreRead, AreRises, AreSmallEntries, Frame, Slots, memory_of}

-- how a leaf's node stands in each phase
abbrev pub stage_in : Phase → Stage
stage_in phase.Pending = Pending
stage_in phase.Running = Live
stage_in phase.Blocked = Live
stage_in phase.Serving = Live
stage_in phase.Handling = Live
stage_in phase.Exited = Ended

-- what is counted, by the price of a dataspace in capabilities
abbrev pub counted_at : ℕ → List Resource
counted_at price = if price == 0 then Ram ∷ [] else Ram ∷ Caps ∷ []

-- A component for each leaf, with the quantum of its node; each leaf is in a phase in which its node stands so; and capabilities are counted where they
-- have a price.
pub record IsOf (system : System) (f : Frame) (s : Slots) : Type 0 where
  pub count : length system.components ≡ length s.own
  pub counted : system.counted ≡ counted_at s.trades.trading.ledger.price
  pub quanta : (x : ℕ) (c : Component) → slice_get system.components x ≡ Some c → (node_at s.trades.nodes (node_of s.trades.trading x)).quantum ≡ c.node.quantum
  pub stages : (x : ℕ) → x < length s.own → (node_at s.trades.nodes (node_of s.trades.trading x)).stage ≡ stage_in (f.leaf x).phase

-- What holds of slots between two calls: the laws of `Slots`, of their `Trades` and of their accounts.
pub record AreLawful (s : Slots) : Type 0 where
  pub trades : IsTrades s.trades
  pub trading : IsTrading s.trades.trading
  pub balanced : IsBalanced s.trades.trading.ledger
  pub count : length s.own ≡ length s.trades.trading.leaves
  pub held : ArePaidFor s
  pub rises : AreRises s
  pub entries : AreSmallEntries s
  pub read : AreRead s

-- the leaf x can't pay n more of this kind: of bytes, and of capabilities where they are counted
abbrev pub Lacks : Resource → Slots → ℕ → ℕ → Type 0
Lacks Ram s x n = (memory_of s x).left < n
Lacks Caps s x n = ((memory_of s x).caps ≡ Some 0) × (0 < n)
