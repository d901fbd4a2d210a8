use Rattle.std.proofs.Common.{◌≡◌, ◌++◌}
use Rattle.std.specs.Slice.Iter.{iter_rest}
use Rattle.std.specs.Iterator.Adapters.{zip_first, zip_second}
use Rattle.gq_budget.specs.internal.Run_rounds.{budgets_by}
use Rattle.gq_budget.proofs.signal_steps.budgets.Given as goal

-- the budgets so far, with those of the leaves that are left, are those of all
abbrev pub invariant-loop-leaf : goal.invariant-loop-leaf
invariant-loop-leaf l =
    l.steps.items ++ budgets_by (iter_rest (zip_first l.leaf-iterator)) (iter_rest (zip_second l.leaf-iterator)) ≡ budgets_by l.leaves l.often
