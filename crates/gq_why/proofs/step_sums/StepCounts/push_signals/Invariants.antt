use Rattle.std.proofs.Common.{◌≡◌, ◌-◌, ◌++◌}
use Rattle.gq_model.specs.machine.Scenario.{system}
use Rattle.gq_why.specs.Why.{signal_parts}
use Rattle.gq_why.proofs.step_sums.StepCounts.push_signals.Given as goal

-- the parts so far, with those of the signals that are left, are all
abbrev pub invariant-loop-signal : goal.invariant-loop-signal
invariant-loop-signal l =
    l.text.items ++ signal_parts (system l.self) l.leaf l.component l.reacting l.signal (l.other.node.signals - l.signal)
    ≡ l.fn.text.items ++ signal_parts (system l.self) l.leaf l.component l.reacting 0 l.other.node.signals
