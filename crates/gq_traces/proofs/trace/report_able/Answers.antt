-- More turns, each of which is a step.
use Rattle.std.proofs.Common.{◌≡◌, ◌∙◌, ◌+◌, ap, arith, refl, subst, sym, false}
use Rattle.gq_model.specs.machine.Rest.{can_run, while_can}
use Rattle.gq_model.specs.machine.Scenario.{Scenario, system}
use Rattle.gq_traces.specs.Trace.{after_turns, turns_text}
use Rattle.gq_traces.specs.Traces_written.{prints_all}
use Rattle.gq_traces.specs.internal.Printed_steps.{budgets_of}
use Rattle.gq_traces.proofs.Printed_turns.{after_sum, turns_sum}
use Rattle.gq_traces.proofs.Repeated_leaf_turns.{come_more, come_rest}
use Rattle.gq_traces.proofs.Turns_going.{some_as, turns_both}
use Rattle.gq_traces.proofs.trace.report_able.Goals as goal

pub loop-done-preserved : goal.loop-done-preserved
loop-done-preserved g c =
    let l = c.loop-done in
    let w = c.args.world.now in
    let s = w.scenario in
    let x = c.args.leaf in
    let n = l.done in
    let all = prints_all c.args.reporting in
    let b = budgets_of s in
    let step = c.print_steps-goes in
    let m = step.result.1 in
    let few = step.ensures.few in
    let test = c.loop-done-test.true in
    let reported = some_as g.W.Write.contents all s l.world.scenario x x m (c.args.turns + c.from.result) l.world step.new.world l.tracing
    step.new.tracing l.out step.new.out l.going step.result.0 l.invariant.reported.scenario refl step.ensures.reported in
    record {
      come = come_more (system s) x c.args.most n m w.world l.world.world step.new.world.world (omega (arith, few, test))
          (subst (λ (r : Scenario). while_can m (system r) l.world.world x ≡ (m, step.new.world.world)) l.invariant.reported.scenario step.ensures.taken)
          l.invariant.come;
      reported = turns_both g.W.Write.contents 0 0 (turns_text all s b x n) (turns_text all s b x m) (turns_text all s b x (n + m))
          (after_turns (system s) x n)
          (after_turns (system s) x m) (after_turns (system s) x (n + m)) c.args.turns n m (n + m) (c.args.turns + c.from.result) w l.world step.new.world
          c.args.tracing.now l.tracing step.new.tracing c.args.out.now l.out step.new.out c.args.going l.going step.result.0
          (ap (λ k. c.args.turns + k) c.from.ensures) refl
          (λ u. turns_sum all s b x n m u) (λ u. after_sum (system s) x n m u) l.invariant.reported reported;
      before = step.ensures.after;
    }

pub returns-else-can_run-clause-taken : goal.returns-else-can_run-clause-taken
returns-else-can_run-clause-taken g c =
    let l = c.loop-done in
    let w = c.args.world.now in
    let s = w.scenario in
    come_rest (system s) c.args.leaf c.args.most l.done w.world l.world.world
    (subst (λ (r : Scenario). can_run (system r) l.world.world c.args.leaf ≡ false) l.invariant.reported.scenario (sym c.can_run.ensures ∙ c.if-can_run.false))
    l.invariant.come
