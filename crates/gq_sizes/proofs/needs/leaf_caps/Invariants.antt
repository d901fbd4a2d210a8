use Rattle.std.proofs.Common.{◌≡◌, max, drop}
use Rattle.gq_model.specs.machine.Amounts.{Caps}
use Rattle.gq_model.specs.machine.Lists.{greatest}
use Rattle.gq_model.specs.machine.Scenario.{Interface}
use Rattle.gq_verify.specs.Saturated_numbers.{saturated}
use Rattle.gq_sizes.specs.Point_maxima.{given_in}
use Rattle.gq_verify.specs.Named_sections.{AreThere}
use Rattle.gq_sizes.specs.Needing.{section_needed}
use Rattle.gq_sizes.proofs.needs.leaf_caps.Given as goal

-- the most so far, with what is left
abbrev pub invariant-loop-section : goal.invariant-loop-section
invariant-loop-section l = record {
  most : (i : Interface) → max l.most (saturated (greatest (section_needed (given_in l.given.interfaces.now l.given.sums.now) Caps l.verified i l.level)
      (drop l.section-index l.section-items)))
      ≡ saturated (greatest (section_needed (given_in l.given.interfaces.now l.given.sums.now) Caps l.verified i l.level) l.section-items);
  there : AreThere l.section-items (drop l.section-index l.section-items);
}
