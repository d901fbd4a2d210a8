-- Leaf by leaf.
use Rattle.std.proofs.Common.{◌≡◌, ◌∙◌, ◌-◌, ◌+◌, ◌<◌, IfSome, Some, ap, arith, length, subst, sym}
use Rattle.gq_model.specs.machine.Rest.{greatest_turns, while_can}
use Rattle.gq_model.specs.machine.Run.{turns_of}
use Rattle.gq_model.specs.machine.Scenario.{Scenario, components, system}
use Rattle.gq_traces.specs.internal.Peaking.{HasTurns, Peaked}
use Rattle.gq_traces.proofs.Next_taken.{next_of, some_of}
use Rattle.gq_traces.proofs.Way_taken.{no_next_peak, none_left_peak, rest_peaked, rest_peaked_count, rest_peaked_more, rest_unpeaked}
use Rattle.gq_traces.proofs.peaks.take_rest.Goals as goal

pub loop-taken-init : goal.loop-taken-init
loop-taken-init c = rest_unpeaked c.args.turns c.args.world.now c.args.peaks.now c.requires.running

pub take_able-taken-requires-clause-leaf : goal.take_able-taken-requires-clause-leaf
take_able-taken-requires-clause-leaf c = subst (λ o. IfSome o (λ x. x < length (components c.loop-taken.world.scenario))) c.in-Some.is c.next_able.ensures.there

pub take_able-taken-requires-clause-running : goal.take_able-taken-requires-clause-running
take_able-taken-requires-clause-running c = c.loop-taken.invariant.peaked.running

pub take_able-taken-requires-clause-long : goal.take_able-taken-requires-clause-long
take_able-taken-requires-clause-long c =
    let h = c.loop-taken.invariant.peaked in h.long ∙ (c.requires.long ∙ sym (ap (λ (s : Scenario). length (components s)) h.scenario))

pub take_able-taken-requires-clause-few : goal.take_able-taken-requires-clause-few
take_able-taken-requires-clause-few c =
    let few = c.requires.few in
    let from = c.from.ensures in
    let test = c.loop-taken-test.true in
    omega (arith, few, from, test)

pub loop-taken-preserved : goal.loop-taken-preserved
loop-taken-preserved c =
    let l = c.loop-taken in
    let w = c.args.world.now in
    let s = w.scenario in
    let x = c.in-Some.leaf in
    let step = c.take_able-taken in
    let k = step.result in
    let same = l.invariant.peaked.scenario in
    let test = c.loop-taken-test.true in
    let takes = subst (λ (r : Scenario). while_can (greatest_turns - l.taken) (system r) l.world.world x ≡ (k, step.new.world.world)) same step.ensures.taken in
    rest_peaked_more c.args.turns l.from l.taken x (c.index-from.result + 1) k w l.world step.new.world c.args.peaks.now l.peaks step.new.peaks l.invariant
    (next_of s l.world.scenario l.world.world l.from c.next_able.result (Some x) same c.next_able.ensures.next c.in-Some.is) takes
    (some_of s l.world.scenario l.world.world step.new.world.world x (greatest_turns - l.taken) k c.next_able.result same c.in-Some.is c.next_able.ensures.can
    (c.laws.ensures.goes_on x) (omega (arith, test)) takes) step.ensures.few (let at = c.index-from.ensures in omega (arith, at))
    (subst (λ (r : Scenario). Peaked 0 (λ runs now. HasTurns (system r) x runs (c.args.turns + l.taken) now k) (turns_of (system r) x k) (c.args.turns +
    l.taken)
    (c.args.turns + l.taken + k) l.world step.new.world l.peaks step.new.peaks) same
    (subst (λ n. Peaked 0 (λ runs now. HasTurns (system l.world.scenario) x runs (c.args.turns + n) now k) (turns_of (system l.world.scenario) x k)
    (c.args.turns + n) (c.args.turns + n + k) l.world step.new.world l.peaks step.new.peaks) c.from.ensures step.ensures.peaked))

pub returns-in_default-clause-peaked : goal.returns-in_default-clause-peaked
returns-in_default-clause-peaked c =
    let l = c.loop-taken in
    let w = c.args.world.now in
    rest_peaked c.args.turns l.from l.taken w l.world c.args.peaks.now l.peaks l.invariant
    (no_next_peak c.args.turns l.from l.taken w l.world c.args.peaks.now l.peaks l.invariant
    (next_of w.scenario l.world.scenario l.world.world l.from c.next_able.result _ l.invariant.peaked.scenario c.next_able.ensures.next c.in_default.is))

pub returns-clause-peaked : goal.returns-clause-peaked
returns-clause-peaked c =
    let l = c.loop-taken in
    let w = c.args.world.now in
    let over = c.loop-taken-test.false in
    rest_peaked c.args.turns l.from l.taken w l.world c.args.peaks.now l.peaks l.invariant
    (none_left_peak c.args.turns l.from l.taken w l.world c.args.peaks.now l.peaks l.invariant (omega (arith, over)))

pub loop-taken-smaller : goal.loop-taken-smaller
loop-taken-smaller c =
    let l = c.loop-taken in
    let w = c.args.world.now in
    let x = c.in-Some.leaf in
    let step = c.take_able-taken in
    let k = step.result in
    let same = l.invariant.peaked.scenario in
    let test = c.loop-taken-test.true in
    let some = some_of w.scenario l.world.scenario l.world.world step.new.world.world x (greatest_turns - l.taken) k c.next_able.result same c.in-Some.is
    c.next_able.ensures.can (c.laws.ensures.goes_on x) (omega (arith, test))
    (subst (λ (r : Scenario). while_can (greatest_turns - l.taken) (system r) l.world.world x ≡ (k, step.new.world.world)) same step.ensures.taken) in
    let more = some.1 in
    omega (arith, test, more)

pub returns-in_default-clause-count : goal.returns-in_default-clause-count
returns-in_default-clause-count c =
    let l = c.loop-taken in
    let w = c.args.world.now in
    rest_peaked_count c.args.turns l.from l.taken w l.world c.args.peaks.now l.peaks l.invariant
    (no_next_peak c.args.turns l.from l.taken w l.world c.args.peaks.now l.peaks l.invariant
    (next_of w.scenario l.world.scenario l.world.world l.from c.next_able.result _ l.invariant.peaked.scenario c.next_able.ensures.next c.in_default.is))

pub returns-clause-count : goal.returns-clause-count
returns-clause-count c =
    let l = c.loop-taken in
    let w = c.args.world.now in
    let over = c.loop-taken-test.false in
    rest_peaked_count c.args.turns l.from l.taken w l.world c.args.peaks.now l.peaks l.invariant
    (none_left_peak c.args.turns l.from l.taken w l.world c.args.peaks.now l.peaks l.invariant (omega (arith, over)))
