use Rattle.std.proofs.Common.{◌≡◌, drop}
use Rattle.gq_model.specs.texts.Code.{are_sections}
use Rattle.gq_program.proofs.program_check.are_sections.Given as goal

-- all sections pass where those that are left do
abbrev pub invariant-loop-section : goal.invariant-loop-section
invariant-loop-section l = are_sections l.next (drop l.section-index l.sections) ≡ are_sections 0 l.sections
