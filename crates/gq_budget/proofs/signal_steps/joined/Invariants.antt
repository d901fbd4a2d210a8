use Rattle.std.proofs.Common.{◌≡◌, ◌++◌, drop, map}
use Rattle.gq_budget.specs.internal.Signal_steps.{joined}
use Rattle.gq_budget.proofs.signal_steps.joined.Given as goal

-- the budgets so far, with those of the leaves that are left, are those of all
abbrev pub invariant-loop-leaf : goal.invariant-loop-leaf
invariant-loop-leaf l =
    l.budgets.items ++ joined l.leaf (drop l.leaf l.starts) (map (λ t. t.items) l.tables) ≡ joined 0 l.starts (map (λ t. t.items) l.tables)
