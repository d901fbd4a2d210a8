use Rattle.std.proofs.Common.{◌≡◌}
use Rattle.gq_model.specs.machine.Scenario.{components}
use Rattle.gq_outcomes.specs.internal.Racy.{leading}
use Rattle.gq_outcomes.proofs.racy.leading.Given as goal

-- those from which so many uses lead there
abbrev pub invariant-loop-round : goal.invariant-loop-round
invariant-loop-round l = l.found.items ≡ leading l._round (components l.table) l.marked
