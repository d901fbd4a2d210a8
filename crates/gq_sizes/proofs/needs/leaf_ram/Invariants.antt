use Rattle.std.proofs.Common.{◌≡◌, max, drop}
use Rattle.gq_model.specs.machine.Amounts.{Ram}
use Rattle.gq_model.specs.machine.Lists.{greatest}
use Rattle.gq_verify.specs.Named_sections.{AreThere}
use Rattle.gq_sizes.specs.Needing.{section_needed}
use Rattle.gq_sizes.proofs.needs.leaf_ram.Given as goal

-- the most so far, with what is left
abbrev pub invariant-loop-section : goal.invariant-loop-section
invariant-loop-section l = record {
  most : max l.most (greatest (section_needed (λ _ _. 0) Ram l.verified l.interface l.level) (drop l.section-index l.section-items))
      ≡ greatest (section_needed (λ _ _. 0) Ram l.verified l.interface l.level) l.section-items;
  there : AreThere l.section-items (drop l.section-index l.section-items);
}
