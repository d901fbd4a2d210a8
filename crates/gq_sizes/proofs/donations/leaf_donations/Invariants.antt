use Rattle.std.proofs.Common.{◌≡◌, ◌++◌, drop, map}
use Rattle.gq_verify.specs.Named_sections.{AreThere}
use Rattle.gq_sizes.specs.Donated.{section_donated, section_list}
use Rattle.gq_sizes.specs.Point_maxima.{given_in}
use Rattle.gq_sizes.proofs.donations.leaf_donations.Given as goal

-- the sections so far, with those that are left, are all
abbrev pub invariant-loop-section : goal.invariant-loop-section
invariant-loop-section l = record {
  made : map section_list l.sections.items
      ++ map (section_donated (given_in l.needs.interfaces.now l.needs.sums.now) l.verified) (drop l.section-index l.section-items)
      ≡ map (section_donated (given_in l.needs.interfaces.now l.needs.sums.now) l.verified) l.section-items;
  there : AreThere l.section-items (drop l.section-index l.section-items);
}
