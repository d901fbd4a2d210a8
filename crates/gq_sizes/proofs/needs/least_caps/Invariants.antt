use Rattle.std.proofs.Common.{◌≡◌}
use Rattle.gq_model.specs.machine.Scenario.{System}
use Rattle.gq_sizes.specs.Saturated_tables.{AreOf, sum_rows}
use Rattle.gq_sizes.proofs.needs.least_caps.Given as goal

-- the sums along as many uses as there were rounds
abbrev pub invariant-loop-round : goal.invariant-loop-round
invariant-loop-round l = (all : System) → AreOf all l.components l.leaves l.interfaces → l.sums.items ≡ sum_rows all l._round l.interfaces
