use Rattle.std.proofs.Common.{◌<◌, ℕ, get_or}
use Rattle.gq_budget.specs.internal.Asking_order.{no_asker}
use Rattle.gq_budget.proofs.use_levels.is_placed.Given as goal

-- the leaves of those so far are below
abbrev pub invariant-loop-asker : goal.invariant-loop-asker
invariant-loop-asker l = (i : ℕ) → i < l.asker-index → get_or l.levels (get_or l.asker-items i no_asker).leaf 0 < l.level
