use Rattle.std.proofs.Common.{◌≡◌, drop}
use Rattle.gq_model.specs.machine.Lists.{all_of}
use Rattle.gq_model.specs.rules.Accept.{is_small}
use Rattle.gq_budget.proofs.step_budget.are_small.Given as goal

-- whether all numbers of the rows that are left are small is whether those of all are
abbrev pub invariant-loop-row : goal.invariant-loop-row
invariant-loop-row l = all_of (all_of is_small) (drop l.row-index l.rows) ≡ all_of (all_of is_small) l.rows
