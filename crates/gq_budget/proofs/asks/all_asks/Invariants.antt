use Rattle.std.proofs.Common.{◌≡◌, ◌++◌, map, length}
use Rattle.std.specs.Slice.Iter.{iter_rest}
use Rattle.std.specs.Iterator.Adapters.{zip_first, zip_second}
use Rattle.gq_budget.specs.internal.Run_rounds.{all_asks}
use Rattle.gq_budget.proofs.asks.all_asks.Given as goal

-- the leaves so far, with those that are left, are all
abbrev pub invariant-loop-leaf : goal.invariant-loop-leaf
invariant-loop-leaf l =
    l.asks.items
    ++ all_asks l.leaves (length l.asks.items) (iter_rest (zip_first l.leaf-iterator)) (map (λ v. v.items) (iter_rest (zip_second l.leaf-iterator)))
    ≡ all_asks l.leaves 0 l.leaves (map (λ v. v.items) l.leads)
