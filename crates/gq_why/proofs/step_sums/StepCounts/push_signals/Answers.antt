use Rattle.std.proofs.Common.{◌∙◌, ap, arith}
use Rattle.gq_model.specs.machine.Scenario.{LeafNode, system}
use Rattle.gq_why.proofs.Step_sum_lines.{grown, signal_here}
use Rattle.gq_why.proofs.step_sums.StepCounts.push_signals.Goals as goal

pub loop-signal-preserved : goal.loop-signal-preserved
loop-signal-preserved c =
    let l = c.loop-signal in
    let same = c.signals-signals.ensures.signals ∙ ap (λ (n : LeafNode). n.signals) c.leaf.ensures in
    let less = c.loop-signal-test.true in
    grown l.text.items c.push_signal.new.text.items _ _ _ c.in_ok-push_signal.ensures
    (signal_here (system c.args.self.now) c.args.leaf c.args.component.now c.args.reacting l.signal c.args.other.now.node.signals (omega (arith, less, same)))
    ∙ l.invariant
