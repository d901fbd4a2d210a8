use Rattle.std.proofs.Common.{◌≡◌, drop}
use Rattle.gq_sizes.specs.Size.{gifts_in, least_gift}
use Rattle.gq_verify.specs.Named_sections.{AreThere}
use Rattle.gq_sizes.specs.Needing.{least_of}
use Rattle.gq_sizes.proofs.gifts.leaf_gift.Given as goal

-- the least so far, with what is left
abbrev pub invariant-loop-section : goal.invariant-loop-section
invariant-loop-section l = record {
  least : least_of l.least (least_gift l.service l.level (gifts_in l.verified (drop l.section-index l.section-items)))
      ≡ least_of l.initial.least (least_gift l.service l.level (gifts_in l.verified l.section-items));
  there : AreThere l.section-items (drop l.section-index l.section-items);
}
