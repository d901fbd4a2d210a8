use Rattle.std.proofs.Common.{◌≡◌, ◌<◌, ℕ, length}
use Rattle.gq_races.specs.internal.Owners.{admits_at, owns_kept}
use Rattle.gq_races.proofs.owners.owners.Given as goal

-- owners over so many leaves are known
abbrev pub invariant-loop-round : goal.invariant-loop-round
invariant-loop-round l = (z x : ℕ) → x < length l.opened → admits_at l.all.items z x ≡ owns_kept l._round l.opened z x
