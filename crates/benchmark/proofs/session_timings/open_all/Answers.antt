use Rattle.std.proofs.Common.{arith}
use Rattle.benchmark.proofs.Benchmark_call_rounds.{free_below}
use Rattle.benchmark.specs.Session_rounds.{sessions_of}
use Rattle.benchmark.proofs.session_timings.open_all.Goals as goal

pub open-requires-clause-room : goal.open-requires-clause-room
open-requires-clause-room c =
    let e = free_below (sessions_of c.loop.slots) in
    omega (arith, e, c.loop.invariant.0.few, c.loop.invariant.1, c.requires.count)
