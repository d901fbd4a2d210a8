use Rattle.std.proofs.Common.{◌≡◌, ◌+◌, ◌*◌, ◌++◌, ◌∷◌, [], drop, map}
use Rattle.gq_model.specs.machine.Program.{size}
use Rattle.gq_program.specs.Statement_trees.{tree_of}
use Rattle.gq_races.specs.Races.{found_in}
use Rattle.gq_races.specs.Race_text.{has_effect}
use Rattle.gq_races.specs.internal.Kind_lines.{effect_line}
use Rattle.gq_views.specs.Listing.{joined}
use Rattle.gq_races.proofs.effects.+effects.Given as goal

abbrev pub decreases-push_effects : goal.decreases-push_effects
decreases-push_effects l = 2 * size l.body.now + 1

abbrev pub decreases-push_effects_in : goal.decreases-push_effects_in
decreases-push_effects_in l = 2 * size (tree_of (l.statement.now ∷ []))

-- the lines so far, with those of the statements that are left, are all; and the numbers are those of the statements
abbrev pub invariant-push_effects-loop-statement : goal.invariant-push_effects-loop-statement
invariant-push_effects-loop-statement l =
    record {
      lines :
          l.text.items ++ joined (map (effect_line l.prefix) (found_in (has_effect l.several) l.number (tree_of (drop l.statement-index l.statement-items))))
          ≡ l.fn.text.items ++ joined (map (effect_line l.prefix) (found_in (has_effect l.several) l.first (tree_of l.statement-items)));
      numbers : l.number + size (tree_of (drop l.statement-index l.statement-items)) ≡ l.first + size (tree_of l.statement-items);
    }
