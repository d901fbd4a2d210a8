use Rattle.std.proofs.Common.{◌≡◌, drop}
use Rattle.gq_sizes.specs.Size.{least_gift}
use Rattle.gq_sizes.specs.Needing.{gifts_of, least_of}
use Rattle.gq_sizes.proofs.gifts.least_gift.Given as goal

-- the least so far, with what is left
abbrev pub invariant-loop-verified : goal.invariant-loop-verified
invariant-loop-verified l =
    least_of l.least (least_gift l.service l.level (gifts_of (drop l.verified-index l.leaves))) ≡ least_gift l.service l.level (gifts_of l.leaves)
