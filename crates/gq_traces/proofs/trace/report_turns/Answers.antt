-- Some turns after the others.
use Rattle.std.proofs.Common.{◌≡◌, ◌+◌, ap, refl, arith}
use Rattle.gq_model.specs.machine.Scenario.{system}
use Rattle.gq_traces.specs.Trace.{after_turns, turns_text}
use Rattle.gq_traces.specs.Traces_written.{prints_all}
use Rattle.gq_traces.specs.internal.Printed_steps.{budgets_of}
use Rattle.gq_traces.proofs.Still_noted.{use_in}
use Rattle.gq_traces.proofs.Turns_going.{no_turns, some_as, turns_both, turns_end}
use Rattle.gq_traces.proofs.Printed_turns.{after_sum, turns_sum}
use Rattle.gq_traces.proofs.trace.report_turns.Goals as goal

pub loop-done-init : goal.loop-done-init
loop-done-init g c =
    let s = c.args.world.now.scenario in
    let w = c.args.world.now in
    record {
      few = omega arith;
      reported = no_turns g.W.Write.contents (turns_text (prints_all c.args.reporting) s (budgets_of s) c.args.leaf 0)
          (after_turns (system s) c.args.leaf 0)
          c.args.turns w c.args.tracing.now c.args.out.now c.args.going c.requires.can (λ u. refl) (λ u. refl);
      before = use_in c.machine.result.now w c.args.leaf c.use_of-before.result c.machine.ensures.is c.use_of-before.ensures;
    }

pub loop-done-preserved : goal.loop-done-preserved
loop-done-preserved g c =
    let l = c.loop-done in
    let w = c.args.world.now in
    let s = w.scenario in
    let x = c.args.leaf in
    let n = l.done in
    let all = prints_all c.args.reporting in
    let b = budgets_of s in
    let step = c.print_some-goes in
    let m = step.result.1 in
    let few = step.ensures.few in
    let some = step.ensures.some in
    let within = l.invariant.few in
    let test = c.loop-done-test.true in
    let reported = some_as g.W.Write.contents all s l.world.scenario x x m (c.args.turns + c.from.result) l.world step.new.world l.tracing
    step.new.tracing l.out step.new.out l.going step.result.0 l.invariant.reported.scenario refl step.ensures.reported in
    record {
      few = omega (arith, few, within, test);
      reported = turns_both g.W.Write.contents 0 0 (turns_text all s b x n) (turns_text all s b x m) (turns_text all s b x (n + m)) (after_turns (system s) x n)
          (after_turns (system s) x m) (after_turns (system s) x (n + m)) c.args.turns n m (n + m) (c.args.turns + c.from.result) w l.world step.new.world
          c.args.tracing.now l.tracing step.new.tracing c.args.out.now l.out step.new.out c.args.going l.going step.result.0
          (ap (λ k. c.args.turns + k) c.from.ensures) refl
          (λ u. turns_sum all s b x n m u) (λ u. after_sum (system s) x n m u) l.invariant.reported reported;
      before = step.ensures.after;
    }

pub returns : goal.returns
returns g c =
    let l = c.loop-done in
    let s = c.args.world.now.scenario in
    let over = c.loop-done-test.false in
    let few = l.invariant.few in
    let same : l.done ≡ c.args.count = omega (arith, over, few) in
    turns_end g.W.Write.contents (prints_all c.args.reporting) s c.args.leaf l.done c.args.count c.args.turns c.args.world.now l.world
    c.args.tracing.now l.tracing c.args.out.now l.out c.args.going l.going same l.invariant.reported
