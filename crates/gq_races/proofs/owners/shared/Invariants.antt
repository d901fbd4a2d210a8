use Rattle.std.proofs.Common.{◌≡◌, ◌<◌, ℕ, Bool, get_or, length}
use Rattle.std.specs.Prelude.{not}
use Rattle.gq_races.specs.Races.{any_below}
use Rattle.gq_races.specs.internal.Owners.{owns_kept}
use Rattle.gq_races.proofs.owners.shared.Given as goal

-- the leaves so far are reported
abbrev pub invariant-loop-place : goal.invariant-loop-place
invariant-loop-place l = record {
  count : length l.all.items ≡ l.place;
  reported : (x : ℕ) (b : Bool) → x < l.place → b ≡ get_or l.all.items x b
      → b ≡ not (any_below (λ z. owns_kept (length l.opened) l.opened z x) (length l.opened));
}
