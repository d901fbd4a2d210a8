use Rattle.std.proofs.Common.{◌≡◌, drop}
use Rattle.std.specs.Prelude.{nat_le, sum_by}
use Rattle.gq_model.specs.machine.Program.{size}
use Rattle.gq_model.specs.texts.Code.{greatest_statements}
use Rattle.gq_program.proofs.program_check.are_few.Given as goal

-- all sections are few where those that are left are
abbrev pub invariant-loop-body : goal.invariant-loop-body
invariant-loop-body l = nat_le (sum_by (λ s. size s.1) (drop l.body-index l.sections)) l.left ≡ nat_le (sum_by (λ s. size s.1) l.sections) greatest_statements
