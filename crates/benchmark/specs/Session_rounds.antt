-- Sessions of the leaf 1 to the leaf 0.
use Rattle.std.specs.Prelude.{◌≡◌, ℕ, suc, ◌<◌, ◌≤◌, List, [], length, get_or, Option, None, slice_set}
use Rattle.gq_trade.specs.Numbers.{IsTaken, free_number}
use Rattle.gq_contents.specs.declared.content.Content.TheVariants.{Empty}
use Rattle.gq_trade.specs.declared.session.Session.{Session}
use Rattle.gq_trade.specs.Trading.{session_in}
use Rattle.gq_trade.specs.declared.trade_node.NodeState.{NodeState}
use Rattle.gq_trade.specs.declared.trade_node.Stage.TheVariants.{Live}
use Rattle.gq_trade.specs.Trades.{IsLive}
use Rattle.gq_slots.specs.Slots.{Slots}

abbrev pub live_node : ℕ → NodeState
live_node ram = record { quantum = record { ram = ram; caps = 0 }; after = None; stage = Live }

abbrev pub sessions_of : Slots → List (Option Session)
sessions_of s = s.trades.trading.sessions

-- both leaves are live, and no request waits
pub record IsCalm (s : Slots) : Type 0 where
  pub requests : s.trades.trading.requests ≡ []
  pub server : IsLive s.trades 0
  pub client : IsLive s.trades 1
  pub service : 0 < length s.trades.trading.objects
  pub room : s.trades.trading.room ≡ 16384

-- and at most n numbers of sessions were used
pub record HasRoom (n : ℕ) (s : Slots) : Type 0 where
  pub calm : IsCalm s
  pub few : length (sessions_of s) ≤ n

-- of these sessions, k is one of the leaf 1 to the leaf 0 that can be closed
pub record CanClose (ss : List (Option Session)) (k : ℕ) : Type 0 where
  pub taken : IsTaken ss k
  pub client : (session_in ss k).client ≡ 1
  pub server : (session_in ss k).server ≡ 0
  pub object : (session_in ss k).object ≡ Empty → ⊥
  pub empty : (i : ℕ) → i < 8 → get_or (session_in ss k).slots i Empty ≡ Empty

-- The session k was opened at the lowest free number.
pub record Opens (old new : Slots) (k : ℕ) : Type 0 where
  pub calm : IsCalm new
  pub session : CanClose (sessions_of new) k
  pub few : length (sessions_of new) ≤ suc (length (sessions_of old))
  pub again : free_number (slice_set (sessions_of new) k None) ≡ free_number (sessions_of old)

-- a request was made and taken
pub record Calls (old new : Slots) : Type 0 where
  pub calm : IsCalm new
  pub sessions : sessions_of new ≡ sessions_of old

-- the session k is gone
pub record Closes (old new : Slots) (k : ℕ) : Type 0 where
  pub calm : IsCalm new
  pub sessions : sessions_of new ≡ slice_set (sessions_of old) k None

-- a session was there and is gone
pub record Passes (old new : Slots) : Type 0 where
  pub calm : IsCalm new
  pub again : free_number (sessions_of new) ≡ free_number (sessions_of old)
