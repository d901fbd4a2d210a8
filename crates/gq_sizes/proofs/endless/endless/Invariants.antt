use Rattle.std.proofs.Common.{◌≡◌}
use Rattle.gq_model.specs.machine.Scenario.{System}
use Rattle.gq_sizes.specs.Passing.{chain_rows}
use Rattle.gq_sizes.specs.Saturated_tables.{AreOf}
use Rattle.gq_sizes.proofs.endless.endless.Given as goal

-- the chains with as many sessions more as there were rounds
abbrev pub invariant-loop-round : goal.invariant-loop-round
invariant-loop-round l = (all : System) → AreOf all l.components l.leaves l.interfaces → l.tests.items ≡ chain_rows all l._round l.interfaces
