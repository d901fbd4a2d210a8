use Rattle.std.proofs.Common.{◌≡◌, ℕ, drop}
use Rattle.std.specs.Prelude.{◌&&◌}
use Rattle.gq_races.specs.internal.Owners.{admits, admits_at, all_kept}
use Rattle.gq_races.proofs.owners.owner_of.Given as goal

-- the leaves so far, with those that are left, are all
abbrev pub invariant-loop-place : goal.invariant-loop-place
invariant-loop-place l =
    (z : ℕ) → (admits l.owner z && all_kept (admits_at l.owners z) z l.leaf l.place (drop l.place l.opened))
    ≡ all_kept (admits_at l.owners z) z l.leaf 0 l.opened
