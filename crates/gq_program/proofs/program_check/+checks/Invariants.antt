use Rattle.std.proofs.Common.{◌≡◌, ◌+◌, ◌*◌, ◌∷◌, [], drop}
use Rattle.gq_model.specs.machine.Program.{size}
use Rattle.gq_model.specs.texts.Code.{is_body}
use Rattle.gq_program.specs.Statement_trees.{tree_of}
use Rattle.gq_program.proofs.program_check.+checks.Given as goal

abbrev pub decreases-is_body : goal.decreases-is_body
decreases-is_body l = 2 * size l.body.now + 1

abbrev pub decreases-is_statement : goal.decreases-is_statement
decreases-is_statement l = 2 * size (tree_of (l.statement.now ∷ []))

-- all statements pass where those that are left do
abbrev pub invariant-is_body-loop-statement : goal.invariant-is_body-loop-statement
invariant-is_body-loop-statement l = is_body l.depth (tree_of (drop l.statement-index l.statement-items)) ≡ is_body l.depth (tree_of l.statement-items)
