use Rattle.std.proofs.Common.{◌≡◌, ◌++◌, drop}
use Rattle.gq_budget.specs.internal.Run_rounds.{askers_in}
use Rattle.gq_budget.proofs.counted_leaves.CountedLeaf.put_askers.Given as goal

-- those so far, with those of the sections that are left, are all
abbrev pub invariant-loop-part : goal.invariant-loop-part
invariant-loop-part l =
    l.askers.items ++ askers_in l.service l.leaf l.part (drop l.part l.self.requests) ≡ l.fn.askers.items ++ askers_in l.service l.leaf 0 l.self.requests
