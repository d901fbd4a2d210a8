use Rattle.std.proofs.Common.{◌<◌}
use Rattle.gq_trade.specs.Numbers.{free_number}
use Rattle.benchmark.specs.Session_rounds.{IsCalm, sessions_of}
use Rattle.benchmark.proofs.session_timings.rounds.Given as goal

abbrev pub invariant-loop : goal.invariant-loop
invariant-loop l = IsCalm l.slots × (free_number (sessions_of l.slots) < 16384)
