use Rattle.std.proofs.Common.{◌≡◌, take}
use Rattle.gq_budget.proofs.rounds.are_same.Given as goal

-- the rows so far are the same
abbrev pub invariant-loop-row : goal.invariant-loop-row
invariant-loop-row l = take l.row l.table ≡ take l.row l.other
