-- Requests as the abstract machine has them.
use Rattle.std.specs.Prelude.{◌≡◌, ℕ, ◌==◌, List, [], ◌∷◌, Option, Some, None, map}
use Rattle.gq_model.specs.machine.World as world
use Rattle.gq_model.specs.machine.Step as step
use Rattle.gq_trade.specs.declared.requests.Ask.{Ask}
use Rattle.gq_trade.specs.declared.requests.Ask.TheVariants.{Open, Upgrade, Close, Call}
use Rattle.gq_trade.specs.declared.requests.Request.{Request}

abbrev pub ask_seen : Ask → world.Ask
ask_seen Open = world.Ask_open
ask_seen Upgrade = world.Ask_upgrade
ask_seen Close = world.Ask_close
ask_seen (Call n) = world.Ask_call n

abbrev pub request_seen : Request → world.Request
request_seen r = record { session = r.session; ask = ask_seen r.ask }

abbrev pub taken_seen : Option (Request × List Request) → Option (world.Request × List world.Request)
taken_seen None = None
taken_seen (Some p) = Some (request_seen p.0, map request_seen p.1)

-- the server beside each request is that of its session
abbrev pub AreServed : world.World → List Request → Type 0
AreServed w [] = Unit {0}
AreServed w (r ∷ rs) = ((x : ℕ) → step.is_to x (world.session_at w r.session) ≡ (r.server == x)) × AreServed w rs
