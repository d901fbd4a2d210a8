use Rattle.std.proofs.Common.{◌≡◌, ◌++◌, drop}
use Rattle.gq_views.specs.Listing.{joined, locals_lines}
use Rattle.gq_views.proofs.listing.push_locals.Given as goal

-- the lines so far, with those of the locals that are left, are all
abbrev pub invariant-loop-place : goal.invariant-loop-place
invariant-loop-place l =
    l.text.items ++ joined (locals_lines l.place (drop l.place l.locals)) ≡ l.fn.text.items ++ joined (locals_lines 0 l.locals)
