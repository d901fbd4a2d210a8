-- The leaves so far.
use Rattle.gq_model.specs.machine.Scenario.{components}
use Rattle.gq_machine.specs.internal.Starts.{AreFirst}
use Rattle.gq_machine.proofs.machine.first_leaves.Given as goal

abbrev pub invariant-loop-number : goal.invariant-loop-number
invariant-loop-number l = AreFirst (components l.table) l.number l.leaves.items
