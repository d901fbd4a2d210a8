-- What a leaf that serves does with the oldest request to it.
use Rattle.std.specs.Prelude.{◌≡◌, ℕ, suc, ◌<◌, ◌≤◌, Bool, true, false, Ok}
use Rattle.gq_model.specs.machine.Doing.{Idle, Quiet, Stepped}
use Rattle.gq_model.specs.machine.Step.{first_operands, section_asked}
use Rattle.gq_model.specs.machine.World as world
use Rattle.gq_trade.specs.Numbers.{IsTaken}
use Rattle.gq_trade.specs.Queues.{IsOldest}
use Rattle.gq_trade.specs.Trading.{server_of, session_at}
use Rattle.gq_trade.specs.declared.requests.Ask.TheVariants.{Upgrade}
use Rattle.gq_trade.specs.declared.requests.Request.{Request}
use Rattle.gq_slots.specs.Slots.{Slots}
use Rattle.gq_leaf.specs.Coded.{Coded}
use Rattle.gq_leaf.specs.Section_boundaries.{begun}

-- The oldest request to the leaf x: it is of a session to x that is there and has this level, and is for a level that there is.
pub record IsFirst (s : Slots) (x : ℕ) (r : Request) (at_level : ℕ) : Type 0 where
  pub oldest : IsOldest x s.trades.trading.requests r
  pub taken : IsTaken s.trades.trading.sessions r.session
  pub its : server_of s.trades.trading r.session ≡ x
  pub level : at_level ≡ (session_at s.trades.trading r.session).level
  pub low : at_level ≤ 3
  pub within : r.ask ≡ Upgrade → at_level < 3

-- a request was taken, or none waited
abbrev pub takes : Bool → world.World → Stepped
takes true w = Ok (w, Quiet)
takes false w = Ok (w, Idle)

-- the leaf at the start of that section
abbrev pub begun_for : Coded → world.Request → ℕ → Coded
begun_for l r level = record l {
  state = begun l.state (record { session = r.session; section = section_asked r.ask level }) (first_operands r.ask);
}
