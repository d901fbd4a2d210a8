use Rattle.std.proofs.Common.{◌≡◌, drop, IsTrue}
use Rattle.std.specs.Prelude.{nat_le}
use Rattle.gq_model.specs.machine.Program.{size}
use Rattle.gq_model.specs.machine.Lists.{all_of}
use Rattle.gq_model.specs.machine.Sections.{is_section}
use Rattle.gq_model.specs.rules.Verdict.{first_fault}
use Rattle.gq_verify.proofs.section_rules.first_fault.Given as goal

-- none of the sections so far has a fault
abbrev pub invariant-loop-section : goal.invariant-loop-section
invariant-loop-section l = record {
  first : first_fault l.subject (drop l.section-index l.section-items) ≡ first_fault l.subject l.section-items;
  each : IsTrue (all_of (λ p. is_section p.0) (drop l.section-index l.section-items));
  few : IsTrue (all_of (λ p. nat_le (size p.1) 4096) (drop l.section-index l.section-items));
}
