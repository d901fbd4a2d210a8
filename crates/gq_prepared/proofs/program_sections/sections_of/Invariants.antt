use Rattle.std.proofs.Common.{◌≡◌, is_some, length}
use Rattle.gq_bytecode.specs.Programs.{code_in}
use Rattle.gq_prepared.proofs.In_order.{AreReported}
use Rattle.gq_prepared.proofs.program_sections.sections_of.Given as goal

-- the sections before the number are reported
abbrev pub invariant-loop-number : goal.invariant-loop-number
invariant-loop-number l = record {
  long : length l.there ≡ 16;
  reported : AreReported (λ s. is_some (code_in s l.code.sections)) l.there l.number;
}
