use Rattle.std.proofs.Common.{◌≡◌, ◌+◌, ◌*◌, ◌∷◌, [], drop}
use Rattle.gq_model.specs.machine.Program.{size}
use Rattle.gq_program.specs.Statement_trees.{tree_of}
use Rattle.gq_verify.proofs.sizes.+counts.Given as goal

abbrev pub decreases-count : goal.decreases-count
decreases-count l = 2 * size l.body.now + 1

abbrev pub decreases-count_of : goal.decreases-count_of
decreases-count_of l = 2 * size (tree_of (l.statement.now ∷ []))

-- the number so far, with the statements that are left, is that of all
abbrev pub invariant-count-loop-statement : goal.invariant-count-loop-statement
invariant-count-loop-statement l = l.sum + size (tree_of (drop l.statement-index l.statement-items)) ≡ size (tree_of l.statement-items)
