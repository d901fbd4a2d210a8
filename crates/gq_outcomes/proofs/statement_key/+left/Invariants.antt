use Rattle.std.proofs.Common.{◌≡◌, ◌+◌, ◌*◌, ◌≤◌, ◌∷◌, [], drop}
use Rattle.gq_bytecode.specs.Bytecode_layout.{width}
use Rattle.gq_model.specs.machine.Program.{size}
use Rattle.gq_program.specs.Statement_trees.{tree_of}
use Rattle.gq_outcomes.specs.internal.Left.{left_in}
use Rattle.gq_outcomes.proofs.statement_key.+left.Given as goal

abbrev pub decreases-push_left : goal.decreases-push_left
decreases-push_left l = 2 * size (tree_of l.statements.now) + 1

abbrev pub decreases-push_inside : goal.decreases-push_inside
decreases-push_inside l = 2 * size (tree_of (l.statement.now ∷ []))

-- what is left of all is what is left of those that come next, of which no more is wide
abbrev pub invariant-push_left-loop-number : goal.invariant-push_left-loop-number
invariant-push_left-loop-number l = record {
  same : l.key.items ≡ l.fn.key.items;
  left : left_in l.rounds l.depth (tree_of (drop l.number l.statements)) l.left ≡ left_in l.rounds l.depth (tree_of l.statements) l.place;
  wide : width (tree_of (drop l.number l.statements)) ≤ width (tree_of l.statements);
}
