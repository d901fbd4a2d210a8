use Rattle.std.proofs.Common.{◌≡◌, drop}
use Rattle.gq_outcomes.specs.internal.Racy.{changes_later}
use Rattle.gq_outcomes.proofs.racy.changes_later.Given as goal

-- those that are left change own slots just if all do
abbrev pub invariant-loop-section : goal.invariant-loop-section
invariant-loop-section l = changes_later l.section-items ≡ changes_later (drop l.section-index l.section-items)
