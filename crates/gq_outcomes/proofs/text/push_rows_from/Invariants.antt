use Rattle.std.proofs.Common.{◌≡◌, ◌<◌, ◌++◌, ◌∷◌, ℕ, List, drop, length}
use Rattle.gq_model.specs.machine.Scenario.{components}
use Rattle.gq_outcomes.specs.Text.{rows_back}
use Rattle.gq_outcomes.specs.internal.Turn_rows.{past_of, rows_onto}
use Rattle.gq_outcomes.proofs.Turn_rows.{lines_back}
use Rattle.gq_outcomes.proofs.text.push_rows_from.Given as goal

-- the rows that were put, the one that grows, and the turns that are left make all rows
abbrev pub invariant-loop-turn : goal.invariant-loop-turn
invariant-loop-turn l = record {
  leaf : l.leaf < length (components l.table);
  rows : (done : List (ℕ × ℕ)) × (l.text.items ≡ l.fn.text.items ++ lines_back (components l.table) done)
      × (rows_onto (drop l.turn-index l.rest) ((l.leaf, l.count) ∷ done) ≡ rows_back (past_of (l.first ∷ l.rest)));
}
