use Rattle.std.proofs.Common.{◌+◌, ◌*◌, ◌≤◌, [], ◌∷◌, length}
use Rattle.gq_model.specs.machine.Program.{size}
use Rattle.gq_program.specs.Statement_trees.{tree_of}
use Rattle.gq_program.proofs.spare.Spare.+spares.Given as goal

abbrev pub decreases-give : goal.decreases-give
decreases-give l = 3 * size l.body + 2

abbrev pub decreases-give_all : goal.decreases-give_all
decreases-give_all l = 3 * size (tree_of l.statements.now.items) + 1

abbrev pub decreases-give_blocks : goal.decreases-give_blocks
decreases-give_blocks l = 3 * size (tree_of (l.statement ∷ []))

-- the statements that are left are a prefix of all
abbrev pub invariant-give_all-loop-statement : goal.invariant-give_all-loop-statement
invariant-give_all-loop-statement l = size (tree_of l.statements.items) ≤ size (tree_of l.fn.statements.items)

abbrev pub decreases-give_all-loop-statement : goal.decreases-give_all-loop-statement
decreases-give_all-loop-statement l = length l.statements.items
