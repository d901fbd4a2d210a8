use Rattle.std.proofs.Common.{◌≡◌, ◌+◌, ◌-◌, ◌*◌, ◌∷◌, [], drop, length, max, IsTrue}
use Rattle.gq_model.specs.machine.Lists.{greatest}
use Rattle.gq_model.specs.machine.Program.{size}
use Rattle.gq_model.specs.rules.Flow.{later, flow, points}
use Rattle.gq_program.specs.Statement_trees.{tree_of}
use Rattle.gq_caps.specs.Measured.{total_of, AreFew}
use Rattle.gq_caps.specs.declared.totals.Measure.{Measure}
use Rattle.gq_rules.specs.Flowing.{few_loops}
use Rattle.gq_rules.specs.List_maxima.{measure_of}
use Rattle.gq_rules.proofs.flow.+flows.Given as goal

abbrev pub decreases-flow : goal.decreases-flow
decreases-flow l = 3 * size l.body.now + 2

abbrev pub decreases-flow_statement : goal.decreases-flow_statement
decreases-flow_statement l = 3 * size (tree_of (l.statement.now ∷ [])) + 1

abbrev pub decreases-flow_if : goal.decreases-flow_if
decreases-flow_if l = 3 * (1 + size l.arm.now + size l.other.now)

abbrev pub decreases-flow_loop : goal.decreases-flow_loop
decreases-flow_loop l = 3 * (1 + size l.body.now)

abbrev pub decreases-flow_still_if : goal.decreases-flow_still_if
decreases-flow_still_if l = 3 * (1 + size l.arm.now + size l.other.now)

abbrev pub decreases-flow_still_loop : goal.decreases-flow_still_loop
decreases-flow_still_loop l = 3 * (1 + size l.body.now)

-- the walk through what is left, from what is known now, gives what the walk through all gives
abbrev pub invariant-flow-loop-statement : goal.invariant-flow-loop-statement
invariant-flow-loop-statement l = record {
  walked : later l.place (flow l.context l.state (tree_of (drop l.statement-index l.statement-items))) ≡
      later l.fn.place (flow l.fn.context l.fn.state (tree_of l.statement-items));
  places : l.place + size (tree_of (drop l.statement-index l.statement-items)) ≡ l.fn.place + size (tree_of l.statement-items);
  loops : IsTrue (few_loops (4 - length l.context.counts) (tree_of (drop l.statement-index l.statement-items)));
  peaks : (m : Measure) →
      max (total_of l.peaks m) (greatest (measure_of m) (points l.context l.state (tree_of (drop l.statement-index l.statement-items)))) ≡
      max (total_of l.fn.peaks m) (greatest (measure_of m) (points l.context l.fn.state (tree_of l.statement-items)));
  small : AreFew l.peaks;
}
