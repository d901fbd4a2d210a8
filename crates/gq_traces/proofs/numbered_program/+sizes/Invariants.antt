use Rattle.std.proofs.Common.{◌≡◌, ◌+◌, ◌*◌, ◌∷◌, [], drop}
use Rattle.gq_model.specs.machine.Program.{size}
use Rattle.gq_program.specs.Statement_trees.{tree_of}
use Rattle.gq_traces.proofs.numbered_program.+sizes.Given as goal

abbrev pub decreases-size_of : goal.decreases-size_of
decreases-size_of l = 2 * size (tree_of (l.statement.now ∷ []))

abbrev pub decreases-size_of_all : goal.decreases-size_of_all
decreases-size_of_all l = 2 * size l.body.now + 1

-- the statements so far, with those that are left, are all
abbrev pub invariant-size_of_all-loop-statement : goal.invariant-size_of_all-loop-statement
invariant-size_of_all-loop-statement l = l.count + size (tree_of (drop l.statement-index l.statement-items)) ≡ size (tree_of l.statement-items)
