use Rattle.std.proofs.Common.{◌≡◌, ◌+◌, ◌*◌, ◌∷◌, [], drop}
use Rattle.gq_model.specs.machine.Program.{size}
use Rattle.gq_program.specs.Statement_trees.{tree_of}
use Rattle.gq_races.specs.internal.Conflicts.{conflicts_in}
use Rattle.gq_races.proofs.conflicts.+conflicts.Given as goal

abbrev pub decreases-has_conflicts : goal.decreases-has_conflicts
decreases-has_conflicts l = 2 * size l.body.now + 1

abbrev pub decreases-has_conflict : goal.decreases-has_conflict
decreases-has_conflict l = 2 * size (tree_of (l.statement.now ∷ []))

-- those that are left are races or orders just if all do
abbrev pub invariant-has_conflicts-loop-statement : goal.invariant-has_conflicts-loop-statement
invariant-has_conflicts-loop-statement l =
    conflicts_in (tree_of l.statement-items) ≡ conflicts_in (tree_of (drop l.statement-index l.statement-items))
