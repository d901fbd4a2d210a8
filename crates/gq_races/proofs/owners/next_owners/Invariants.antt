use Rattle.std.proofs.Common.{◌≡◌, ◌<◌, ℕ, length}
use Rattle.gq_races.specs.internal.Owners.{admits_at, all_kept}
use Rattle.gq_races.proofs.owners.next_owners.Given as goal

-- the leaves so far are known
abbrev pub invariant-loop-place : goal.invariant-loop-place
invariant-loop-place l = record {
  count : length l.all.items ≡ l.place;
  known : (z x : ℕ) → x < l.place → admits_at l.all.items z x ≡ all_kept (admits_at l.owners z) z x 0 l.opened;
}
