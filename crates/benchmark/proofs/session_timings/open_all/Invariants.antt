use Rattle.std.proofs.Common.{◌≤◌}
use Rattle.benchmark.specs.Session_rounds.{HasRoom}
use Rattle.benchmark.proofs.session_timings.open_all.Given as goal

abbrev pub invariant-loop : goal.invariant-loop
invariant-loop l = HasRoom l.counter l.slots × (l.counter ≤ l.count)
