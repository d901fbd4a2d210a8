use Rattle.std.proofs.Common.{◌≡◌, ◌+◌, ◌*◌, ◌++◌, ◌∷◌, [], drop}
use Rattle.gq_model.specs.machine.Program.{size}
use Rattle.gq_model.specs.rules.Use.{services_of}
use Rattle.gq_program.specs.Statement_trees.{tree_of}
use Rattle.gq_resolve.proofs.opened_services.+opened.Given as goal

abbrev pub decreases-push_opened : goal.decreases-push_opened
decreases-push_opened l = 2 * size l.body.now + 1

abbrev pub decreases-push_opened_in : goal.decreases-push_opened_in
decreases-push_opened_in l = 2 * size (tree_of (l.statement.now ∷ []))

-- the services so far, with those of the statements that are left, are those of all
abbrev pub invariant-push_opened-loop-statement : goal.invariant-push_opened-loop-statement
invariant-push_opened-loop-statement l =
    l.services.items ++ services_of (tree_of (drop l.statement-index l.statement-items)) ≡ l.fn.services.items ++ services_of (tree_of l.statement-items)
