use Rattle.std.proofs.Common.{◌+◌, ◌*◌, ◌∷◌, []}
use Rattle.gq_model.specs.machine.Program.{size}
use Rattle.gq_program.specs.Statement_trees.{tree_of}
use Rattle.gq_fit.proofs.same_programs.+statements.Given as goal

abbrev pub decreases-same_list : goal.decreases-same_list
decreases-same_list l = 3 * size (tree_of l.a.now) + 1

abbrev pub decreases-same_body : goal.decreases-same_body
decreases-same_body l = 3 * size l.a.now + 2

abbrev pub decreases-same_statement : goal.decreases-same_statement
decreases-same_statement l = 3 * size (tree_of (l.a.now ∷ []))
