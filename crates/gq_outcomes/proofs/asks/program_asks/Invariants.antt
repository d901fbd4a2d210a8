use Rattle.std.proofs.Common.{take}
use Rattle.gq_outcomes.specs.internal.Asks.{AreOfSections}
use Rattle.gq_views.specs.internal.Table_leaves.{served_by}
use Rattle.gq_outcomes.proofs.asks.program_asks.Given as goal

-- those of the sections so far
abbrev pub invariant-loop-section : goal.invariant-loop-section
invariant-loop-section l = AreOfSections (served_by l.client) (take l.section-index l.section-items) l.all.items
