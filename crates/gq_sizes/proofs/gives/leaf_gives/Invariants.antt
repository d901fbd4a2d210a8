use Rattle.std.proofs.Common.{◌≡◌, drop}
use Rattle.gq_model.specs.declared.section.Section.{Section}
use Rattle.gq_model.specs.machine.Lists.{all_of}
use Rattle.gq_model.specs.machine.Program.{Statements}
use Rattle.gq_verify.specs.Named_sections.{AreThere}
use Rattle.gq_verify.specs.Visits.{section_sights}
use Rattle.gq_sizes.specs.Gives.{gives_right}
use Rattle.gq_sizes.proofs.gives.leaf_gives.Given as goal

-- all that are left give what is asked, if all do
abbrev pub invariant-loop-section : goal.invariant-loop-section
invariant-loop-section l = record {
  right : all_of (λ (p : Section × Statements). all_of (gives_right l.interfaces) (section_sights l.verified p.0)) (drop l.section-index l.section-items)
      ≡ all_of (λ (p : Section × Statements). all_of (gives_right l.interfaces) (section_sights l.verified p.0)) l.section-items;
  there : AreThere l.section-items (drop l.section-index l.section-items);
}
