use Rattle.std.proofs.Common.{◌≡◌, ℕ, ◌++◌, map, drop}
use Rattle.gq_prepared.proofs.plans.leaves_of.Given as goal

-- the places so far, with those that are left, are all
abbrev pub invariant-loop-place : goal.invariant-loop-place
invariant-loop-place l = l.leaves.items ++ map (λ (n : ℕ). n) (drop l.place-index l.place-items) ≡ map (λ (n : ℕ). n) l.place-items
