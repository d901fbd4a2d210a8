use Rattle.std.proofs.Common.{◌≡◌, drop}
use Rattle.gq_races.specs.internal.Conflicts.{conflicts_later}
use Rattle.gq_races.proofs.conflicts.conflicts_later.Given as goal

-- those that are left are races or orders just if all do
abbrev pub invariant-loop-section : goal.invariant-loop-section
invariant-loop-section l = conflicts_later l.section-items ≡ conflicts_later (drop l.section-index l.section-items)
