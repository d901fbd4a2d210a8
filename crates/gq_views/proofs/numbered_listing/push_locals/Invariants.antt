use Rattle.std.proofs.Common.{◌≡◌, ◌++◌, drop}
use Rattle.gq_views.specs.Numbered.{local_rows, text_of}
use Rattle.gq_views.proofs.numbered_listing.push_locals.Given as goal

-- the lines so far, with those of the locals that are left, are all
abbrev pub invariant-loop-place : goal.invariant-loop-place
invariant-loop-place l =
    l.text.items ++ text_of (local_rows l.place (drop l.place l.locals)) ≡ l.fn.text.items ++ text_of (local_rows 0 l.locals)
