-- One line after the other.
use Rattle.std.proofs.Common.{◌≡◌, ◌∙◌, ◌+◌, ◌++◌, ◌∷◌, [], suc, true, ap, arith, length, subst, sym, take}
use Rattle.gq_init.specs.Turn_items.{IsOf}
use Rattle.gq_model.specs.machine.Scenario.{Scenario, components, system}
use Rattle.gq_traces.specs.Traces_written.{prints_all}
use Rattle.gq_traces.specs.internal.Line_acts.{after_line, line_text}
use Rattle.gq_traces.specs.internal.Lines_given.{IsFew}
use Rattle.gq_traces.specs.internal.Printed_steps.{PrintsTurns, budgets_of}
use Rattle.gq_traces.proofs.Lines_taken.{lines_printed_more, no_lines_printed}
use Rattle.gq_traces.proofs.Turns_few.{few_here, lines_bound, of_here, take_more}
use Rattle.gq_traces.proofs.trace.report_all.Goals as goal

pub loop-item-init : goal.loop-item-init
loop-item-init g c =
    no_lines_printed g.W.Write.contents (prints_all c.args.reporting) c.args.turns.now c.args.world.now c.args.tracing.now c.args.out.now true c.requires.can

pub print_line-goes-requires-clause-leaf : goal.print_line-goes-requires-clause-leaf
print_line-goes-requires-clause-leaf g c =
    let l = c.loop-item in
    let q = c.item-item.result in
    subst (λ line. IsOf (length (components l.world.scenario)) line) (sym c.line.ensures)
    (subst (λ (s : Scenario). IsOf (length (components s)) q) (sym l.invariant.reported.scenario)
    (of_here (length (components c.args.world.now.scenario)) c.args.turns.now l.item-index q c.loop-item-test.true c.item-item.is c.requires.leaves))

pub print_line-goes-requires-clause-few : goal.print_line-goes-requires-clause-few
print_line-goes-requires-clause-few g c =
    let l = c.loop-item in
    subst IsFew (sym c.line.ensures)
    (few_here c.args.turns.now l.item-index c.item-item.result c.loop-item-test.true c.item-item.is c.requires.each)

pub print_line-goes-requires-clause-turns : goal.print_line-goes-requires-clause-turns
print_line-goes-requires-clause-turns g c =
    let l = c.loop-item in
    let few = l.invariant.few in
    let less = c.loop-item-test.true in
    let signals = c.requires.signals in
    omega (arith, few, less, signals, lines_bound)

pub overflow_add-taken : goal.overflow_add-taken
overflow_add-taken g c =
    let l = c.loop-item in
    let few = l.invariant.few in
    let less = c.loop-item-test.true in
    let signals = c.requires.signals in
    let count = c.from-taken.ensures in
    let here = c.print_line-goes.ensures.few in
    omega (arith, few, less, signals, count, here, lines_bound)

pub loop-item-preserved : goal.loop-item-preserved
loop-item-preserved g c =
    let l = c.loop-item in
    let i = l.item-index in
    let w = c.args.world.now in
    let turns = c.args.turns.now in
    let all = prints_all c.args.reporting in
    let step = c.print_line-goes in
    let line = c.line.result in
    let before = ap (λ line. take i turns ++ line ∷ []) c.line.ensures
    ∙ (take_more turns i c.item-item.result c.loop-item-test.true c.item-item.is ∙ (let next : suc i ≡ i + 1 = omega arith in ap (λ m. take m turns) next)) in
    lines_printed_more g.W.Write.contents all turns i l.taken step.result.1 (l.taken + c.from-taken.result) w l.world step.new.world c.args.tracing.now
    l.tracing
    step.new.tracing c.args.out.now l.out step.new.out true l.going step.result.0 line before l.invariant step.ensures.few
    (ap (λ n. l.taken + n) c.from-taken.ensures)
    (subst (λ (s : Scenario). PrintsTurns 1 g.W.Write.contents (line_text all s (budgets_of s) line) (after_line (system s) line) l.taken step.result.1 l.world
    step.new.world l.tracing step.new.tracing l.out step.new.out l.going step.result.0) l.invariant.reported.scenario step.ensures.reported)
