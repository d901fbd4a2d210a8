-- The server that a leaf asks next.
use Rattle.std.specs.Prelude.{ℕ, Option, None}
use Rattle.gq_model.specs.machine.World.{Leaf, World}
use Rattle.gq_outcomes.specs.Choices.{server_at}
use Rattle.gq_outcomes.specs.declared.asks.Asks.{Asks}
use Rattle.gq_outcomes.specs.declared.asks.Asks.TheVariants as asks

-- the server that is asked, if there is one
abbrev pub server_asked : World → ℕ → Leaf → Asks → Option ℕ
server_asked w x leaf asks.Nothing = None
server_asked w x leaf (asks.Opens server) = server
server_asked w x leaf (asks.Names place) = server_at w x leaf place
server_asked w x leaf asks.Other = None
