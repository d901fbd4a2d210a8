use Rattle.std.proofs.Common.{◌+◌, ◌-◌, ◌*◌, ◌∷◌, [], drop, length, IsTrue}
use Rattle.gq_model.specs.machine.Program.{size}
use Rattle.gq_model.specs.rules.Kinds.{AbstractState}
use Rattle.gq_program.specs.Statement_trees.{tree_of}
use Rattle.gq_rules.specs.Flowing.{few_loops}
use Rattle.gq_verify.specs.Rights.{IsRight}
use Rattle.gq_verify.specs.internal.Slot_equal_states.{AreAlike}
use Rattle.gq_verify.proofs.Statement_slot_changes.{Counted}
use Rattle.gq_verify.proofs.counting.+counting.Given as goal

abbrev pub decreases-count : goal.decreases-count
decreases-count l = 3 * size l.body.now + 2

abbrev pub decreases-count_in : goal.decreases-count_in
decreases-count_in l = 3 * size (tree_of (l.statement.now ∷ [])) + 1

abbrev pub decreases-count_if : goal.decreases-count_if
decreases-count_if l = 3 * (1 + size l.arm.now + size l.other.now)

abbrev pub decreases-count_loop : goal.decreases-count_loop
decreases-count_loop l = 3 * (1 + size l.body.now)

-- those so far, with the requests of the statements that are left, are those of all; what is left leads to the same state
abbrev pub invariant-count-loop-statement : goal.invariant-count-loop-statement
invariant-count-loop-statement l = record {
  each : (s : AbstractState) → AreAlike s l.fn.state → IsRight l.context s (tree_of l.statement-items) →
      Counted l.context s l.state l.asked l.fn.asked l.statement-items l.statement-index;
  loops : IsTrue (few_loops (4 - length l.context.counts) (tree_of (drop l.statement-index l.statement-items)));
}
