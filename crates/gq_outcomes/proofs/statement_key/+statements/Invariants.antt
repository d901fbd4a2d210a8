use Rattle.std.proofs.Common.{◌≡◌, ◌+◌, ◌*◌, ◌++◌, ◌∷◌, [], drop}
use Rattle.gq_model.specs.machine.Program.{size}
use Rattle.gq_program.specs.Statement_trees.{tree_of}
use Rattle.gq_outcomes.specs.internal.Keys.{statements_key}
use Rattle.gq_outcomes.proofs.statement_key.+statements.Given as goal

abbrev pub decreases-push_all : goal.decreases-push_all
decreases-push_all l = 2 * size (tree_of l.statements.now) + 1

abbrev pub decreases-push_statement : goal.decreases-push_statement
decreases-push_statement l = 2 * size (tree_of (l.statement.now ∷ []))

-- the bytes so far, with those of the statements that are left, are all
abbrev pub invariant-push_all-loop-statement : goal.invariant-push_all-loop-statement
invariant-push_all-loop-statement l =
    l.key.items ++ statements_key (tree_of (drop l.statement-index l.statements)) ≡ l.fn.key.items ++ statements_key (tree_of l.statements)
