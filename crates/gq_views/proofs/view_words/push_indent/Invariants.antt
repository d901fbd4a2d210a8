use Rattle.std.proofs.Common.{◌≡◌, ◌++◌}
use Rattle.gq_views.specs.Listing.{indent}
use Rattle.gq_views.proofs.view_words.push_indent.Given as goal

-- the blanks so far, with those that are left, are all
abbrev pub invariant-loop-left : goal.invariant-loop-left
invariant-loop-left l = l.text.items ++ indent l.left ≡ l.initial.text.items ++ indent l.depth

abbrev pub decreases-loop-left : goal.decreases-loop-left
decreases-loop-left l = l.left
