-- What a call on sessions and on leaves changes.
use Rattle.std.specs.Prelude.{◌≡◌, ℕ, suc, true, List, [], ◌∷◌, ◌++◌, replicate, slice_get, slice_set, Option, Some, None}
use Rattle.gq_tariff.specs.declared.amount.Amount.{Amount}
use Rattle.gq_model.specs.machine.Amounts.{plus}
use Rattle.gq_model.specs.machine.Requests.{add_session, free_place}
use Rattle.gq_model.specs.declared.program.Form.TheVariants as form
use Rattle.gq_model.specs.machine.World as world
use Rattle.gq_model.specs.machine.Step as step
use Rattle.gq_trade.specs.declared.requests.Ask.{Ask}
use Rattle.gq_trade.specs.declared.requests.Ask.TheVariants.{Open, Upgrade, Close, Call}
use Rattle.gq_trade.specs.declared.requests.Request.{Request}
use Rattle.gq_trade.specs.Seen_requests.{request_seen}
use Rattle.gq_trade.specs.declared.session.SlotId.{SlotId}
use Rattle.gq_trade.specs.declared.session.SlotId.TheVariants.{InLeaf, InSession, InObject}
use Rattle.gq_trade.specs.Trading.{Trading, Accepts, Closes, object_size}
use Rattle.gq_trade.specs.Leaf_ends.{Ends}
use Rattle.gq_trade.specs.Trades.{with_trading}
use Rattle.gq_slots.specs.Slots.{Slots, Frame, IsSlotId, holder, world_seen}

-- WHAT A REQUEST CHANGES

-- other sessions, requests and accounts
abbrev pub with_trades : Slots → Trading → Slots
with_trades s t = record { trades = with_trading s.trades t; own = s.own; heaps = s.heaps }

-- a request of the session k is behind all others
abbrev pub asking : world.World → ℕ → world.Ask → world.World
asking w k ask = record w { requests = w.requests ++ record { session = k; ask = ask } ∷ [] }

-- a session stands at the first free place, and its request to open is behind all others
abbrev pub opening : world.World → world.Session → world.World
opening w q = asking (record w { sessions = add_session q w.sessions }) (free_place w.sessions) world.Ask_open

abbrev pub more_for : world.World → ℕ → Amount → Option world.Session → world.World
more_for w k n None = w
more_for w k n (Some q) = world.with_session w k (record q { donation = plus q.donation n })

-- so much more is given for the session k, and its request to upgrade is behind all others
abbrev pub upgrading : world.World → ℕ → Amount → world.World
upgrading w k n = asking (more_for w k n (world.session_at w k)) k world.Ask_upgrade

-- WHAT A REQUEST BEGINS

-- an open makes an object of n bytes, an upgrade raises the level
abbrev pub begun : Ask → ℕ → world.Session → world.Session
begun Open n q = record q { accepted = true; object = world.Bytes form.Slice n (replicate n 0) }
begun Upgrade n q = record q { level = suc q.level }
begun Close n q = q
begun (Call a) n q = q

abbrev pub begun_at : world.World → ℕ → Ask → ℕ → Option world.Session → world.World
begun_at w k a n None = w
begun_at w k a n (Some q) = world.with_session w k (begun a n q)

-- a request of the session k, whose object has n bytes, is current, and these are left
abbrev pub accepting : world.World → ℕ → Ask → ℕ → List world.Request → world.World
accepting w k a n rest = begun_at (record w { requests = rest }) k a n (world.session_at w k)

-- The oldest request to the leaf x is current, and what it asks for has begun.
pub record TakesOldest (old new : Slots) (x : ℕ) (r : Request) : Type 0 where
  pub accepts : Accepts old.trades.trading new.trades.trading x r
  pub oldest : (f : Frame) → step.oldest (world_seen f old) x (world_seen f old).requests ≡ Some (request_seen r, (world_seen f new).requests)
  pub seen_so : (f : Frame) → world_seen f new
      ≡ accepting (world_seen f old) r.session r.ask (object_size old.trades.trading r.session) (world_seen f new).requests
  pub nodes : new.trades.nodes ≡ old.trades.nodes
  pub leaves : new.trades.trading.leaves ≡ old.trades.trading.leaves
  pub slot_ids : (q : SlotId) → IsSlotId old q → IsSlotId new q
  pub holders : (q : SlotId) → holder new q ≡ holder old q

-- SESSIONS THAT END

-- the session k is there no more
abbrev pub ending : world.World → ℕ → world.World
ending w k = record w { sessions = slice_set w.sessions k None }

-- it is no slot of the session k, and not its object
abbrev pub IsBeside : ℕ → SlotId → Type 0
IsBeside k (InLeaf x i) = Unit {0}
IsBeside k (InSession j i) = j ≡ k → ⊥
IsBeside k (InObject j) = j ≡ k → ⊥

-- What was given for the session k is its client's again, and the machine's world has the session no more; all else of it is as before, whatever the
-- leaves do.
pub record EndsSession (old new : Slots) (k : ℕ) : Type 0 where
  pub closes : Closes old.trades.trading new.trades.trading k
  pub seen_so : (f : Frame) → world_seen f new ≡ ending (world_seen f old) k
  pub nodes : new.trades.nodes ≡ old.trades.nodes
  pub leaves : new.trades.trading.leaves ≡ old.trades.trading.leaves
  pub slot_ids : (q : SlotId) → IsBeside k q → IsSlotId old q → IsSlotId new q
  pub holders : (q : SlotId) → IsBeside k q → holder new q ≡ holder old q

-- LEAVES THAT END

-- a leaf that holds nothing
abbrev pub bare : world.Leaf → world.Leaf
bare leaf = record leaf { slots = replicate 64 world.Empty; peaks = replicate 8 0 }

abbrev pub bare_in : world.World → ℕ → Option world.Leaf → world.World
bare_in w x None = w
bare_in w x (Some leaf) = world.with_leaf w x (bare leaf)

-- the leaf x holds nothing
abbrev pub emptied : world.World → ℕ → world.World
emptied w x = bare_in w x (slice_get w.leaves x)

-- The account of the leaf x is closed, and the node that starts after it has its quantum. In the machine's world the leaf holds nothing, and all else is as
-- before, whatever the leaves do.
pub record EndsLeaf (old new : Slots) (x : ℕ) : Type 0 where
  pub ends : Ends old.trades new.trades x
  pub seen_so : (f : Frame) → world_seen f new ≡ emptied (world_seen f old) x
  pub leaves : new.trades.trading.leaves ≡ old.trades.trading.leaves
  pub slot_ids : (q : SlotId) → IsSlotId old q → IsSlotId new q
  pub holders : (q : SlotId) → holder new q ≡ holder old q
