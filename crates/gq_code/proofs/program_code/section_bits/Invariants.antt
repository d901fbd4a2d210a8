use Rattle.std.proofs.Common.{◌≡◌, ◌+◌, ℕ, drop, IsTrue}
use Rattle.gq_model.specs.texts.Code.{are_sections, section_bits}
use Rattle.gq_code.proofs.program_code.section_bits.Given as goal

-- the bits so far, with those of the sections that are left, are all; these stand in their order
abbrev pub invariant-loop-section : goal.invariant-loop-section
invariant-loop-section l = record {
  sum : l.bits + section_bits (drop l.section-index l.sections) ≡ section_bits l.sections;
  ordered : (n : ℕ) × IsTrue (are_sections n (drop l.section-index l.sections));
}
