use Rattle.std.proofs.Common.{◌≡◌, ◌+◌, ◌-◌, ◌*◌, drop, length, IsTrue}
use Rattle.gq_model.specs.machine.Program.{size}
use Rattle.gq_model.specs.rules.Kinds.{AbstractState}
use Rattle.gq_program.specs.Statement_trees.{tree_of}
use Rattle.gq_rules.specs.Flowing.{few_loops}
use Rattle.gq_verify.specs.Rights.{IsRight}
use Rattle.gq_verify.specs.internal.Slot_equal_states.{AreAlike}
use Rattle.gq_verify.specs.internal.Visiting.{size_in}
use Rattle.gq_verify.proofs.Visitor_statement_walk.{Visited}
use Rattle.gq_verify.proofs.visits.+visiting.Given as goal

abbrev pub decreases-visit : goal.decreases-visit
decreases-visit g l = 4 * size l.body.now + 3

abbrev pub decreases-visit_statement : goal.decreases-visit_statement
decreases-visit_statement g l = 4 * (1 + size_in l.statement.now) + 2

abbrev pub decreases-visit_in : goal.decreases-visit_in
decreases-visit_in g l = 4 * (1 + size_in l.statement.now) + 1

abbrev pub decreases-visit_if : goal.decreases-visit_if
decreases-visit_if g l = 4 * (1 + (size l.arm.now + size l.other.now))

abbrev pub decreases-visit_loop : goal.decreases-visit_loop
decreases-visit_loop g l = 4 * (1 + size l.body.now)

-- what was shown so far, with what is left, is all; what is left leads to the same state
abbrev pub invariant-visit-loop-statement : goal.invariant-visit-loop-statement
invariant-visit-loop-statement g l = record {
  each : (s : AbstractState) → AreAlike s l.fn.state → IsRight l.context s (tree_of l.statement-items) →
      Visited g.V.Visitor.leads l.context s l.state l.fn.number l.number l.fn.visitor l.visitor l.statement-items l.statement-index;
  met : l.number + size (tree_of (drop l.statement-index l.statement-items)) ≡ l.fn.number + size (tree_of l.statement-items);
  loops : IsTrue (few_loops (4 - length l.context.counts) (tree_of (drop l.statement-index l.statement-items)));
}
