use Rattle.std.proofs.Common.{◌≡◌, ◌+◌, ◌*◌, ◌∷◌, [], drop}
use Rattle.gq_model.specs.machine.Program.{size}
use Rattle.gq_program.specs.Statement_trees.{tree_of}
use Rattle.gq_program.specs.internal.Statement_counts.{less}
use Rattle.gq_program.proofs.program_check.+counts.Given as goal

abbrev pub decreases-without : goal.decreases-without
decreases-without l = 2 * size l.body.now + 1

abbrev pub decreases-without_one : goal.decreases-without_one
decreases-without_one l = 2 * size (tree_of (l.statement.now ∷ []))

-- as many are left without those that are left as without all
abbrev pub invariant-without-loop-statement : goal.invariant-without-loop-statement
invariant-without-loop-statement l = less (size (tree_of (drop l.statement-index l.statement-items))) l.left ≡ less (size (tree_of l.statement-items)) l.fn.left
