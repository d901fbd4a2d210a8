-- Turns of which nothing is reported, or one that is reported.
use Rattle.std.proofs.Common.{◌≡◌, suc, ◌+◌, ap, refl, arith, subst}
use Rattle.gq_model.specs.machine.Scenario.{system}
use Rattle.gq_traces.specs.Trace.{after_turn, after_turns, turn_text, turns_text}
use Rattle.gq_traces.specs.Traces_written.{prints_all}
use Rattle.gq_traces.specs.internal.Printed_steps.{PrintsTurns, budgets_of}
use Rattle.gq_traces.proofs.Turns_going.{silent_prints, turn_as, turns_both}
use Rattle.gq_traces.proofs.Printed_turns.{after_more, turns_more}
use Rattle.gq_traces.proofs.trace.print_some.Goals as goal

pub print_turn-going-requires-clause-before : goal.print_turn-going-requires-clause-before
print_turn-going-requires-clause-before g c = c.silent_turns-silent.ensures.silent.uses c.args.before.now c.requires.before

pub returns-then-silent-most-clause-after : goal.returns-then-silent-most-clause-after
returns-then-silent-most-clause-after g c = c.silent_turns-silent.ensures.silent.uses c.args.before.now c.requires.before

pub returns-then-silent-most-clause-reported : goal.returns-then-silent-most-clause-reported
returns-then-silent-most-clause-reported g c =
    let s = c.silent_turns-silent in
    silent_prints g.W.Write.contents (prints_all c.args.reporting) c.args.world.now.scenario c.args.leaf s.result c.args.turns c.args.world.now s.new.world
    c.args.tracing.now s.new.tracing c.args.out.now c.args.going refl s.ensures.silent

pub returns-clause-reported : goal.returns-clause-reported
returns-clause-reported g c =
    let all = prints_all c.args.reporting in
    let w = c.args.world.now in
    let s = w.scenario in
    let b = budgets_of s in
    let x = c.args.leaf in
    let none = c.silent_turns-silent in
    let n = none.result in
    let step = c.print_turn-going in
    let silent = none.ensures.silent in
    let reported = turn_as g.W.Write.contents all s none.new.world.scenario x x (c.args.turns + c.from.result) none.new.world step.new.world none.new.tracing
    step.new.tracing
    c.args.out.now step.new.out c.args.going step.result silent.scenario refl step.ensures.reported in
    let one : suc n ≡ n + 1 = omega arith in
    subst (λ k. PrintsTurns 0 g.W.Write.contents (turns_text all s b x k) (after_turns (system s) x k) c.args.turns k w step.new.world c.args.tracing.now
    step.new.tracing c.args.out.now step.new.out c.args.going step.result) one
    (turns_both g.W.Write.contents 0 0 (turns_text all s b x n) (turn_text all s b x) (turns_text all s b x (suc n)) (after_turns (system s) x n)
    (after_turn (system s) x) (after_turns (system s) x (suc n)) c.args.turns n 1 (suc n) (c.args.turns + c.from.result) w none.new.world step.new.world
    c.args.tracing.now none.new.tracing step.new.tracing c.args.out.now c.args.out.now step.new.out c.args.going c.args.going step.result
    (ap (λ k. c.args.turns + k) c.from.ensures) one
    (λ u. turns_more all s b x n u) (λ u. after_more (system s) x n u)
    (silent_prints g.W.Write.contents all s x n c.args.turns w none.new.world c.args.tracing.now none.new.tracing c.args.out.now c.args.going refl silent)
    reported)
