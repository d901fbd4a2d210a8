use Rattle.std.proofs.Common.{◌≡◌, ◌+◌, ◌*◌, ◌++◌, ◌∷◌, [], drop, map}
use Rattle.gq_model.specs.machine.Program.{size}
use Rattle.gq_program.specs.Statement_trees.{tree_of}
use Rattle.gq_races.specs.Races.{found_in}
use Rattle.gq_races.specs.internal.Openers.{opens_among}
use Rattle.gq_views.specs.internal.Table_leaves.{served_by}
use Rattle.gq_races.specs.internal.Kind_lines.{opened_line}
use Rattle.gq_views.specs.Listing.{joined}
use Rattle.gq_races.proofs.opens.+opens.Given as goal

abbrev pub decreases-push_opens : goal.decreases-push_opens
decreases-push_opens l = 2 * size l.body.now + 1

abbrev pub decreases-push_opens_in : goal.decreases-push_opens_in
decreases-push_opens_in l = 2 * size (tree_of (l.statement.now ∷ []))

-- the lines so far, with those of the statements that are left, are all; and the numbers are those of the statements
abbrev pub invariant-push_opens-loop-statement : goal.invariant-push_opens-loop-statement
invariant-push_opens-loop-statement l =
    record {
      lines :
          l.text.items ++ joined (map (opened_line l.prefix) (found_in (opens_among (served_by l.client) l.leaf) l.number (tree_of (drop
          l.statement-index l.statement-items))))
          ≡ l.fn.text.items ++ joined (map (opened_line l.prefix) (found_in (opens_among (served_by l.client) l.leaf) l.first (tree_of l.statement-items)));
      numbers : l.number + size (tree_of (drop l.statement-index l.statement-items)) ≡ l.first + size (tree_of l.statement-items);
    }
