-- One line after the other.
use Rattle.std.proofs.Common.{◌≡◌, ◌∙◌, ◌+◌, ◌++◌, ◌∷◌, [], suc, ap, arith, length, subst, sym, take}
use Rattle.gq_init.specs.Turn_items.{IsOf}
use Rattle.gq_model.specs.machine.Run.{run_on}
use Rattle.gq_model.specs.machine.Scenario.{Scenario, components, system}
use Rattle.gq_traces.specs.First_turns.{turns_in}
use Rattle.gq_traces.specs.internal.Line_acts.{acts_at}
use Rattle.gq_traces.specs.internal.Lines_given.{IsFew}
use Rattle.gq_traces.specs.internal.Peaking.{HasAll, Peaked}
use Rattle.gq_traces.proofs.Lines_taken.{lines_peaked_more, no_lines_peaked}
use Rattle.gq_traces.proofs.Turns_few.{few_here, lines_bound, of_here, take_more}
use Rattle.gq_traces.proofs.peaks.take_all.Goals as goal

pub loop-item-init : goal.loop-item-init
loop-item-init c = no_lines_peaked c.args.turns.now c.args.world.now c.args.peaks.now c.requires.running

pub take_line-requires-clause-leaf : goal.take_line-requires-clause-leaf
take_line-requires-clause-leaf c =
    let l = c.loop-item in
    let q = c.item-item.result in
    subst (λ line. IsOf (length (components l.world.scenario)) line) (sym c.line.ensures)
    (subst (λ (s : Scenario). IsOf (length (components s)) q) (sym l.invariant.peaked.scenario)
    (of_here (length (components c.args.world.now.scenario)) c.args.turns.now l.item-index q c.loop-item-test.true c.item-item.is c.requires.leaves))

pub take_line-requires-clause-few : goal.take_line-requires-clause-few
take_line-requires-clause-few c =
    let l = c.loop-item in
    subst IsFew (sym c.line.ensures)
    (few_here c.args.turns.now l.item-index c.item-item.result c.loop-item-test.true c.item-item.is c.requires.each)

pub take_line-requires-clause-turns : goal.take_line-requires-clause-turns
take_line-requires-clause-turns c =
    let l = c.loop-item in
    let few = l.invariant.few in
    let less = c.loop-item-test.true in
    let signals = c.requires.signals in
    omega (arith, few, less, signals, lines_bound)

pub overflow_add-taken : goal.overflow_add-taken
overflow_add-taken c =
    let l = c.loop-item in
    let few = l.invariant.few in
    let less = c.loop-item-test.true in
    let signals = c.requires.signals in
    let count = c.from-taken.ensures in
    let here = c.take_line.ensures.few in
    omega (arith, few, less, signals, count, here, lines_bound)

pub take_line-requires-clause-running : goal.take_line-requires-clause-running
take_line-requires-clause-running c = c.loop-item.invariant.peaked.running

pub take_line-requires-clause-signals : goal.take_line-requires-clause-signals
take_line-requires-clause-signals c =
    let l = c.loop-item in
    let more = l.invariant.peaked.signals in
    let less = c.loop-item-test.true in
    let signals = c.requires.signals in
    omega (arith, more, less, signals)

pub take_line-requires-clause-long : goal.take_line-requires-clause-long
take_line-requires-clause-long c =
    let h = c.loop-item.invariant.peaked in h.long ∙ (c.requires.long ∙ sym (ap (λ (s : Scenario). length (components s)) h.scenario))

pub loop-item-preserved : goal.loop-item-preserved
loop-item-preserved c =
    let l = c.loop-item in
    let i = l.item-index in
    let w = c.args.world.now in
    let turns = c.args.turns.now in
    let step = c.take_line in
    let line = c.line.result in
    let same = l.invariant.peaked.scenario in
    let before = ap (λ line. take i turns ++ line ∷ []) c.line.ensures
    ∙ (take_more turns i c.item-item.result c.loop-item-test.true c.item-item.is ∙ (let next : suc i ≡ i + 1 = omega arith in ap (λ m. take m turns) next)) in
    lines_peaked_more turns i l.taken step.result (l.taken + c.from-taken.result) w l.world step.new.world c.args.peaks.now l.peaks step.new.peaks line before
    c.requires.start l.invariant step.ensures.few (ap (λ n. l.taken + n) c.from-taken.ensures)
    (subst (λ (s : Scenario). step.result ≡ turns_in (acts_at (system s) l.world.world line)) same step.ensures.count)
    (subst (λ (s : Scenario). Peaked 1 (λ runs now. HasAll (system s) (acts_at (system s) l.world.world line) runs l.taken now) (run_on (system s) (acts_at
    (system s) l.world.world line)) l.taken (l.taken + step.result) l.world step.new.world l.peaks step.new.peaks) same step.ensures.peaked)
