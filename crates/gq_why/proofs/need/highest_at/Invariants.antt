use Rattle.std.proofs.Common.{option_map, drop}
use Rattle.gq_model.specs.machine.Amounts.{Ram, Caps}
use Rattle.gq_verify.specs.Named_sections.{AreThere}
use Rattle.gq_why.specs.First_maxima.{top_in}
use Rattle.gq_why.proofs.Level_section_points.{Goes}
use Rattle.gq_why.proofs.need.highest_at.Given as goal

-- with the sections that are left, each of which is there, what is kept is the highest of all
abbrev pub invariant-loop-section : goal.invariant-loop-section
invariant-loop-section l = record {
  ram : Goes Ram l.verified l.level (drop l.section-index l.section-items) (option_map top_in l.highest.ram);
  caps : Goes Caps l.verified l.level (drop l.section-index l.section-items) (option_map top_in l.highest.caps);
  there : AreThere l.section-items (drop l.section-index l.section-items);
}
