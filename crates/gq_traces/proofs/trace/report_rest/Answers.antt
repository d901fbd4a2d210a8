-- Leaf by leaf.
use Rattle.std.proofs.Common.{◌≡◌, ◌-◌, ◌+◌, ◌<◌, IfSome, Some, arith, length, refl, subst}
use Rattle.gq_model.specs.machine.Rest.{greatest_turns, while_can}
use Rattle.gq_model.specs.machine.Scenario.{Scenario, components, system}
use Rattle.gq_traces.specs.Trace.{after_turns, turns_text}
use Rattle.gq_traces.specs.Traces_written.{prints_all}
use Rattle.gq_traces.specs.internal.Printed_steps.{PrintsTurns, budgets_of}
use Rattle.gq_traces.proofs.Next_taken.{next_of, some_of}
use Rattle.gq_traces.proofs.Turns_going.{some_as}
use Rattle.gq_traces.proofs.Way_taken.{no_next, none_left, rest_printed, rest_printed_more, rest_unprinted}
use Rattle.gq_traces.proofs.trace.report_rest.Goals as goal

pub loop-taken-init : goal.loop-taken-init
loop-taken-init g c =
    rest_unprinted g.W.Write.contents (prints_all c.args.reporting) c.args.turns c.args.world.now c.args.tracing.now c.args.out.now c.args.going
    c.requires.can

pub report_able-goes-requires-clause-leaf : goal.report_able-goes-requires-clause-leaf
report_able-goes-requires-clause-leaf g c = subst (λ o. IfSome o (λ x. x < length (components c.loop-taken.world.scenario))) c.in-Some.is
    c.next_able.ensures.there

pub report_able-goes-requires-clause-can : goal.report_able-goes-requires-clause-can
report_able-goes-requires-clause-can g c = c.loop-taken.invariant.reported.can

pub report_able-goes-requires-clause-few : goal.report_able-goes-requires-clause-few
report_able-goes-requires-clause-few g c =
    let few = c.requires.few in
    let from = c.from.ensures in
    let test = c.loop-taken-test.true in
    omega (arith, few, from, test)

pub loop-taken-preserved : goal.loop-taken-preserved
loop-taken-preserved g c =
    let l = c.loop-taken in
    let w = c.args.world.now in
    let s = w.scenario in
    let all = prints_all c.args.reporting in
    let x = c.in-Some.leaf in
    let step = c.report_able-goes in
    let k = step.result.1 in
    let same = l.invariant.reported.scenario in
    let test = c.loop-taken-test.true in
    let takes = subst (λ (r : Scenario). while_can (greatest_turns - l.taken) (system r) l.world.world x ≡ (k, step.new.world.world)) same step.ensures.taken in
    let reported = some_as g.W.Write.contents all s l.world.scenario x x k (c.args.turns + c.from.result) l.world step.new.world l.tracing step.new.tracing
    l.out step.new.out l.going step.result.0 same refl step.ensures.reported in
    rest_printed_more g.W.Write.contents all c.args.turns l.from l.taken x (c.index-from.result + 1) k w l.world step.new.world c.args.tracing.now l.tracing
    step.new.tracing c.args.out.now l.out step.new.out c.args.going l.going step.result.0 l.invariant
    (next_of s l.world.scenario l.world.world l.from c.next_able.result (Some x) same c.next_able.ensures.next c.in-Some.is) takes
    (some_of s l.world.scenario l.world.world step.new.world.world x (greatest_turns - l.taken) k c.next_able.result same c.in-Some.is c.next_able.ensures.can
    (c.laws.ensures.goes_on x) (omega (arith, test)) takes) step.ensures.few (let at = c.index-from.ensures in omega (arith, at))
    (subst (λ n. PrintsTurns 0 g.W.Write.contents (turns_text all s (budgets_of s) x k) (after_turns (system s) x k) (c.args.turns + n) k l.world
    step.new.world l.tracing step.new.tracing l.out step.new.out l.going step.result.0) c.from.ensures reported)

pub returns-in_default-clause-reported : goal.returns-in_default-clause-reported
returns-in_default-clause-reported g c =
    let l = c.loop-taken in
    let w = c.args.world.now in
    let all = prints_all c.args.reporting in
    rest_printed g.W.Write.contents all c.args.turns l.from l.taken w l.world c.args.tracing.now l.tracing c.args.out.now l.out c.args.going l.going
    l.invariant
    (no_next g.W.Write.contents all c.args.turns l.from l.taken w l.world c.args.tracing.now l.tracing c.args.out.now l.out c.args.going l.going
    l.invariant
    (next_of w.scenario l.world.scenario l.world.world l.from c.next_able.result _ l.invariant.reported.scenario c.next_able.ensures.next c.in_default.is))

pub returns-clause-reported : goal.returns-clause-reported
returns-clause-reported g c =
    let l = c.loop-taken in
    let w = c.args.world.now in
    let all = prints_all c.args.reporting in
    let over = c.loop-taken-test.false in
    rest_printed g.W.Write.contents all c.args.turns l.from l.taken w l.world c.args.tracing.now l.tracing c.args.out.now l.out c.args.going l.going
    l.invariant
    (none_left g.W.Write.contents all c.args.turns l.from l.taken w l.world c.args.tracing.now l.tracing c.args.out.now l.out c.args.going l.going
    l.invariant (omega (arith, over)))

pub loop-taken-smaller : goal.loop-taken-smaller
loop-taken-smaller g c =
    let l = c.loop-taken in
    let w = c.args.world.now in
    let x = c.in-Some.leaf in
    let step = c.report_able-goes in
    let k = step.result.1 in
    let same = l.invariant.reported.scenario in
    let test = c.loop-taken-test.true in
    let some = some_of w.scenario l.world.scenario l.world.world step.new.world.world x (greatest_turns - l.taken) k c.next_able.result same c.in-Some.is
    c.next_able.ensures.can (c.laws.ensures.goes_on x) (omega (arith, test))
    (subst (λ (r : Scenario). while_can (greatest_turns - l.taken) (system r) l.world.world x ≡ (k, step.new.world.world)) same step.ensures.taken) in
    let more = some.1 in
    omega (arith, test, more)
