use Rattle.std.proofs.Common.{◌≡◌, ◌++◌, drop}
use Rattle.gq_model.specs.rules.Accept.{signal_lines_from}
use Rattle.gq_load.proofs.signal_lines.push_signal_lines.Given as goal

-- the text so far, with the lines of the leaves that are left, is that with all
abbrev pub invariant-loop-leaf : goal.invariant-loop-leaf
invariant-loop-leaf l =
    l.text.items ++ signal_lines_from l.leaf (drop l.leaf l.components) l.budgets ≡ l.fn.text.items ++ signal_lines_from 0 l.components l.budgets
