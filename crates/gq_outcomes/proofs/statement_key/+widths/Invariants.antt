use Rattle.std.proofs.Common.{◌≡◌, ◌+◌, ◌*◌, ◌∷◌, [], drop}
use Rattle.gq_bytecode.specs.Bytecode_layout.{width}
use Rattle.gq_model.specs.machine.Program.{size}
use Rattle.gq_program.specs.Statement_trees.{tree_of}
use Rattle.gq_outcomes.proofs.statement_key.+widths.Given as goal

abbrev pub decreases-width : goal.decreases-width
decreases-width l = 2 * size (tree_of l.statements.now) + 1

abbrev pub decreases-width_of : goal.decreases-width_of
decreases-width_of l = 2 * size (tree_of (l.statement.now ∷ []))

-- the places so far, with those of the statements that are left, are all
abbrev pub invariant-width-loop-statement : goal.invariant-width-loop-statement
invariant-width-loop-statement l = l.count + width (tree_of (drop l.statement-index l.statements)) ≡ width (tree_of l.statements)
