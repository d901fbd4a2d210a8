use Rattle.std.proofs.Common.{IfSome, subst}
use Rattle.gq_slots.specs.Session_calls.{TakesOldest}
use Rattle.benchmark.proofs.Benchmark_call_rounds.{opens}
use Rattle.benchmark.proofs.session_timings.open.Goals as goal

pub returns-in-Ok-Some : goal.returns-in-Ok-Some
returns-in-Ok-Some c =
    opens c.args.slots.now c.ask.new.slots c.accept.new.slots c.in-Ok.number c.in-Ok-Some.field-0-0 (record { ram = 4096; caps = 0 }) c.requires.calm
    c.in-Ok.ensures.number c.in-Ok.ensures.asked
    (subst (λ o. IfSome o (λ r. TakesOldest c.ask.new.slots c.accept.new.slots 0 r)) c.in-Ok-Some.field-0-is c.in-Ok-Some.ensures.some)
