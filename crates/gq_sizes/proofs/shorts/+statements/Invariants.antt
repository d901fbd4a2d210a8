use Rattle.std.proofs.Common.{◌≡◌, ◌+◌, ◌*◌, ◌++◌, ◌∷◌, [], drop}
use Rattle.gq_model.specs.machine.Program.{size}
use Rattle.gq_program.specs.Statement_trees.{tree_of}
use Rattle.gq_sizes.specs.Size.{opens_from}
use Rattle.gq_sizes.specs.Point_maxima.{given_in}
use Rattle.gq_sizes.specs.internal.Short_lines.{lines_by}
use Rattle.gq_sizes.proofs.shorts.+statements.Given as goal

abbrev pub decreases-push_body : goal.decreases-push_body
decreases-push_body l = 2 * size l.body.now + 1

abbrev pub decreases-push_statement : goal.decreases-push_statement
decreases-push_statement l = 2 * size (tree_of (l.statement.now ∷ []))

-- the lines so far, with those of the statements that are left, are all; and the numbers are those of the statements
abbrev pub invariant-push_body-loop-statement : goal.invariant-push_body-loop-statement
invariant-push_body-loop-statement l =
    record {
      lines :
          l.text.items
          ++ lines_by (given_in l.opens.interfaces.now l.opens.sums.now) l.opens.label.now l.opens.section
          (opens_from l.number (tree_of (drop l.statement-index l.statement-items)))
          ≡ l.fn.text.items
          ++ lines_by (given_in l.opens.interfaces.now l.opens.sums.now) l.opens.label.now l.opens.section
          (opens_from l.first (tree_of l.statement-items));
      numbers : l.number + size (tree_of (drop l.statement-index l.statement-items)) ≡ l.first + size (tree_of l.statement-items);
    }
