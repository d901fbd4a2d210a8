use Rattle.std.proofs.Common.{◌+◌, ◌*◌, ◌∷◌, []}
use Rattle.gq_model.specs.machine.Program.{size}
use Rattle.gq_program.specs.Statement_trees.{tree_of}
use Rattle.gq_faults.proofs.compared.Search.+search.Given as goal

abbrev pub decreases-body : goal.decreases-body
decreases-body l = 3 * size l.body.now + 1

abbrev pub decreases-statement : goal.decreases-statement
decreases-statement l = 3 * size (tree_of (l.statement.now ∷ []))

abbrev pub decreases-arms : goal.decreases-arms
decreases-arms l = 3 * (size l.arm.now + size l.other.now) + 2

abbrev pub decreases-rounds : goal.decreases-rounds
decreases-rounds l = 3 * size l.body.now + 2
