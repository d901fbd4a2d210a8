use Rattle.std.proofs.Common.{◌≡◌, ◌+◌, ◌*◌, ◌≤◌, ◌∷◌, [], drop}
use Rattle.gq_bytecode.specs.Bytecode_layout.{width}
use Rattle.gq_model.specs.machine.Program.{size}
use Rattle.gq_program.specs.Statement_trees.{tree_of}
use Rattle.gq_outcomes.specs.internal.Left.{ahead_in}
use Rattle.gq_outcomes.proofs.asks.+asks.Given as goal

abbrev pub decreases-asked_at : goal.decreases-asked_at
decreases-asked_at l = 2 * size (tree_of l.statements.now) + 1

abbrev pub decreases-asked_inside : goal.decreases-asked_inside
decreases-asked_inside l = 2 * size (tree_of (l.statement.now ∷ []))

-- what comes next of all is what comes next of those that are left, of which no more is wide
abbrev pub invariant-asked_at-loop-number : goal.invariant-asked_at-loop-number
invariant-asked_at-loop-number l = record {
  ahead : ahead_in (tree_of (drop l.number l.statements)) l.left ≡ ahead_in (tree_of l.statements) l.place;
  wide : width (tree_of (drop l.number l.statements)) ≤ width (tree_of l.statements);
}
