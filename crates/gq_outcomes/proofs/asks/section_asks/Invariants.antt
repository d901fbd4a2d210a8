use Rattle.std.proofs.Common.{◌≡◌, ℕ, Some, length}
use Rattle.std.specs.Prelude.{slice_get}
use Rattle.gq_outcomes.specs.declared.asks.Asks.{Asks}
use Rattle.gq_outcomes.specs.internal.Asks.{asks_of}
use Rattle.gq_outcomes.specs.internal.Left.{ahead_in}
use Rattle.gq_views.specs.internal.Table_leaves.{served_by}
use Rattle.gq_outcomes.proofs.asks.section_asks.Given as goal

-- those of the places so far
abbrev pub invariant-loop-place : goal.invariant-loop-place
invariant-loop-place l = record {
  count : length l.asks.items ≡ l.place;
  each : (k : ℕ) (a : Asks) → slice_get l.asks.items k ≡ Some a → a ≡ asks_of (served_by l.client) (ahead_in l.body k);
}
