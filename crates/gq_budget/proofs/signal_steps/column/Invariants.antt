use Rattle.std.proofs.Common.{◌≡◌, ◌++◌, drop}
use Rattle.gq_budget.specs.internal.Signal_steps.{column}
use Rattle.gq_budget.proofs.signal_steps.column.Given as goal

-- the numbers so far, with those of the rows that are left, are those of all
abbrev pub invariant-loop-row : goal.invariant-loop-row
invariant-loop-row l = l.numbers.items ++ column l.place (drop l.row-index l.rows) ≡ column l.place l.rows
