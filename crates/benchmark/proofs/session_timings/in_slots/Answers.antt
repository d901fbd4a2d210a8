use Rattle.std.proofs.Common.{arith, refl}
use Rattle.std.proofs.lemmas.Bool.Decides.{nat_tests}
use Rattle.benchmark.proofs.Benchmark_call_rounds.{free_below}
use Rattle.benchmark.specs.Session_rounds.{sessions_of}
use Rattle.benchmark.proofs.session_timings.in_slots.Goals as goal

pub rounds-requires-clause-room : goal.rounds-requires-clause-room
rounds-requires-clause-room c =
    let e = free_below (sessions_of c.open_all.new.slots) in
    let f = (c.if-not-open_all.ensures refl).few in
    grind (arith, nat_tests, e, f, c.requires.others)
