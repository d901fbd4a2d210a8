use Rattle.std.proofs.Common.{◌≡◌, ◌+◌, ◌*◌, ◌∷◌, [], drop}
use Rattle.gq_model.specs.machine.Program.{size}
use Rattle.gq_program.specs.Statement_trees.{tree_of}
use Rattle.gq_outcomes.specs.internal.Racy.{changes_in}
use Rattle.gq_outcomes.proofs.racy.+changes.Given as goal

abbrev pub decreases-has_changes : goal.decreases-has_changes
decreases-has_changes l = 2 * size l.body.now + 1

abbrev pub decreases-has_change : goal.decreases-has_change
decreases-has_change l = 2 * size (tree_of (l.statement.now ∷ []))

-- those that are left change own slots just if all do
abbrev pub invariant-has_changes-loop-statement : goal.invariant-has_changes-loop-statement
invariant-has_changes-loop-statement l =
    changes_in (tree_of l.statement-items) ≡ changes_in (tree_of (drop l.statement-index l.statement-items))
