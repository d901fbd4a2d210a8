use Rattle.std.proofs.Common.{◌<◌, ℕ, [], get_or, map}
use Rattle.gq_resolve.specs.internal.Use_order.{AreBelow}
use Rattle.gq_resolve.proofs.leaf_levels.is_order.Given as goal

-- the leaves so far stand above those that they use
abbrev pub invariant-loop-leaf : goal.invariant-loop-leaf
invariant-loop-leaf l = (x : ℕ) → x < l.leaf → AreBelow l.levels (get_or l.levels x 0) (get_or (map (λ s. s.items) l.used) x [])
