use Rattle.std.proofs.Common.{◌<◌, ℕ, get_or}
use Rattle.gq_budget.specs.internal.Asking_order.{IsPlaced, no_asks}
use Rattle.gq_budget.proofs.use_levels.is_order.Given as goal

-- the levels of the leaves so far are as they have to be
abbrev pub invariant-loop-leaf : goal.invariant-loop-leaf
invariant-loop-leaf l = (x : ℕ) → x < l.leaf → IsPlaced (get_or l.asks x no_asks).askers l.levels l.uses (get_or l.levels x 0)
