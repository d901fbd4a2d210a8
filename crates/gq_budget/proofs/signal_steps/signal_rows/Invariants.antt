use Rattle.std.proofs.Common.{◌≡◌, ◌++◌, ◌-◌}
use Rattle.gq_budget.specs.internal.Signal_steps.{signal_rows}
use Rattle.gq_budget.proofs.signal_steps.signal_rows.Given as goal

-- the rows so far, with those of the signals that are left, are those of all
abbrev pub invariant-loop-signal : goal.invariant-loop-signal
invariant-loop-signal l = l.rows.items ++ signal_rows l.leaves l.uses l.leaf l.signal (l.signals - l.signal) ≡ signal_rows l.leaves l.uses l.leaf 0 l.signals
