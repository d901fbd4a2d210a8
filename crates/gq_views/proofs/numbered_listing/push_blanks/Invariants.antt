use Rattle.std.proofs.Common.{◌≡◌, ◌++◌}
use Rattle.gq_views.specs.Numbered.{blanks}
use Rattle.gq_views.proofs.numbered_listing.push_blanks.Given as goal

-- the blanks so far, with those that are left, are all
abbrev pub invariant-loop-left : goal.invariant-loop-left
invariant-loop-left l = l.text.items ++ blanks l.left ≡ l.initial.text.items ++ blanks l.count

abbrev pub decreases-loop-left : goal.decreases-loop-left
decreases-loop-left l = l.left
