-- Turns of which nothing is reported, or one that is reported.
use Rattle.std.proofs.Common.{◌≡◌, ◌∙◌, ◌++◌, ◌+◌, ℕ, append-nil, ap, arith, length, refl, subst, sym}
use Rattle.std.specs.Prelude.{IsOk}
use Rattle.gq_model.specs.machine.Rest.{while_can}
use Rattle.gq_model.specs.machine.Scenario.{components, system}
use Rattle.gq_model.specs.machine.Step.{next}
use Rattle.gq_model.specs.machine.World as model
use Rattle.gq_traces.specs.Trace.{after_turn, after_turns, turn_text, turns_text}
use Rattle.gq_traces.specs.Traces_written.{prints_all}
use Rattle.gq_traces.specs.internal.Printed_steps.{budgets_of}
use Rattle.gq_traces.proofs.Steps_when_able.{printed_step}
use Rattle.gq_traces.proofs.Turns_going.{silent_prints, turn_as, turns_both}
use Rattle.gq_traces.proofs.trace.print_steps.Goals as goal

pub print_turn-going-requires-clause-before : goal.print_turn-going-requires-clause-before
print_turn-going-requires-clause-before g c = c.silent_turns-silent.ensures.silent.uses c.args.before.now c.requires.before

pub returns-then-silent-gt0-clause-taken : goal.returns-then-silent-gt0-clause-taken
returns-then-silent-gt0-clause-taken g c = (c.silent_turns-silent.ensures.silent.able c.requires.able).0

pub returns-then-silent-gt0-clause-after : goal.returns-then-silent-gt0-clause-after
returns-then-silent-gt0-clause-after g c = c.silent_turns-silent.ensures.silent.uses c.args.before.now c.requires.before

pub returns-then-silent-gt0-clause-reported : goal.returns-then-silent-gt0-clause-reported
returns-then-silent-gt0-clause-reported g c =
    let s = c.silent_turns-silent in
    silent_prints g.W.Write.contents (prints_all c.args.reporting) c.args.world.now.scenario c.args.leaf s.result c.args.turns c.args.world.now s.new.world
    c.args.tracing.now s.new.tracing c.args.out.now c.args.going refl s.ensures.silent

pub returns-clause-taken : goal.returns-clause-taken
returns-clause-taken g c =
    let all = prints_all c.args.reporting in
    let w = c.args.world.now in
    let s = w.scenario in
    let x = c.args.leaf in
    let none = c.silent_turns-silent in
    let n = none.result in
    let step = c.print_turn-going in
    let silent = none.ensures.silent in
    let over = c.if-silent-gt0.false in
    let zero_taken : n ≡ 0 = omega (arith, over) in
    let able = silent.able c.requires.able in
    let same : w.world ≡ none.new.world.world = ap (λ (p : ℕ × model.World). p.1) (ap (λ k. while_can k (system s) w.world x) (sym zero_taken) ∙ able.0) in
    let reported = turn_as g.W.Write.contents all s none.new.world.scenario x x c.args.turns none.new.world step.new.world none.new.tracing
    step.new.tracing
    c.args.out.now step.new.out c.args.going step.result silent.scenario refl step.ensures.reported in
    ap (λ (v : model.World). while_can 1 (system s) v x) same
    ∙ printed_step g.W.Write.contents (turn_text all s (budgets_of s) x) s x c.args.turns none.new.world step.new.world none.new.tracing step.new.tracing
    c.args.out.now step.new.out c.args.going step.result silent.scenario c.requires.leaf
    (subst (λ (v : model.World). length v.leaves ≡ length (components s)) same c.counted.ensures.leaves) silent.can able.1
    (subst (λ (v : model.World). IsOk (next (system s) v x)) same (c.laws.ensures.goes_on x)) reported

pub returns-clause-reported : goal.returns-clause-reported
returns-clause-reported g c =
    let all = prints_all c.args.reporting in
    let w = c.args.world.now in
    let s = w.scenario in
    let b = budgets_of s in
    let x = c.args.leaf in
    let none = c.silent_turns-silent in
    let n = none.result in
    let step = c.print_turn-going in
    let silent = none.ensures.silent in
    let over = c.if-silent-gt0.false in
    let zero_taken : n ≡ 0 = omega (arith, over) in
    let at : c.args.turns ≡ c.args.turns + n = omega (arith, zero_taken) in
    let one : 1 ≡ n + 1 = omega (arith, zero_taken) in
    let reported = turn_as g.W.Write.contents all s none.new.world.scenario x x c.args.turns none.new.world step.new.world none.new.tracing
    step.new.tracing
    c.args.out.now step.new.out c.args.going step.result silent.scenario refl step.ensures.reported in
    turns_both g.W.Write.contents 0 0 (turns_text all s b x n) (turn_text all s b x) (turns_text all s b x 1) (after_turns (system s) x n)
    (after_turn (system s) x) (after_turns (system s) x 1) c.args.turns n 1 1 c.args.turns w none.new.world step.new.world
    c.args.tracing.now none.new.tracing step.new.tracing c.args.out.now c.args.out.now step.new.out c.args.going c.args.going step.result at one
    (λ u. ap (λ k. turns_text all s b x k u ++ turn_text all s b x (after_turns (system s) x k u)) zero_taken ∙ sym (append-nil (turn_text all s b x u)))
    (λ u. ap (λ k. after_turn (system s) x (after_turns (system s) x k u)) zero_taken)
    (silent_prints g.W.Write.contents all s x n c.args.turns w none.new.world c.args.tracing.now none.new.tracing c.args.out.now c.args.going refl silent)
    reported
