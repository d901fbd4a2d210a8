use Rattle.std.proofs.Common.{◌≡◌, drop}
use Rattle.gq_model.specs.machine.Lists.{all_of, between}
use Rattle.gq_model.specs.texts.Operands.{greatest_number}
use Rattle.gq_program.proofs.program_check.are_limits.Given as goal

-- all pass where those that are left do
abbrev pub invariant-loop-limit : goal.invariant-loop-limit
invariant-loop-limit l = all_of (between 0 greatest_number) (drop l.limit-index l.limits) ≡ all_of (between 0 greatest_number) l.limits
