use Rattle.std.proofs.Common.{◌≡◌, ◌+◌, ◌*◌, ◌++◌, ◌∷◌, [], drop}
use Rattle.gq_model.specs.machine.Program.{size}
use Rattle.gq_program.specs.Statement_trees.{tree_of}
use Rattle.gq_views.specs.Listing.{joined, statements_lines}
use Rattle.gq_views.proofs.listing.+statements.Given as goal

abbrev pub decreases-push_body : goal.decreases-push_body
decreases-push_body l = 3 * size l.body.now + 1

abbrev pub decreases-push_other : goal.decreases-push_other
decreases-push_other l = 3 * size l.other.now + 2

abbrev pub decreases-push_statement : goal.decreases-push_statement
decreases-push_statement l = 3 * size (tree_of (l.statement.now ∷ []))

-- the lines so far, with those of the statements that are left, are all
abbrev pub invariant-push_body-loop-statement : goal.invariant-push_body-loop-statement
invariant-push_body-loop-statement l =
    l.text.items ++ joined (statements_lines l.depth (tree_of (drop l.statement-index l.statement-items)))
    ≡ l.fn.text.items ++ joined (statements_lines l.depth (tree_of l.statement-items))
