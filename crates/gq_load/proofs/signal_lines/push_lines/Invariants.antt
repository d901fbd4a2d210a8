use Rattle.std.proofs.Common.{◌≡◌, ◌++◌, ◌-◌}
use Rattle.gq_model.specs.rules.Accept.{signal_lines_of}
use Rattle.gq_load.proofs.signal_lines.push_lines.Given as goal

-- the text so far, with the lines of the signals that are left, is that with all
abbrev pub invariant-loop-signal : goal.invariant-loop-signal
invariant-loop-signal l =
    l.text.items ++ signal_lines_of l.leaf l.signal (l.signals - l.signal) l.component l.budgets
    ≡ l.fn.text.items ++ signal_lines_of l.leaf 0 l.signals l.component l.budgets
