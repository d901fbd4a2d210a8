use Rattle.std.proofs.Common.{◌≡◌, ◌++◌, drop}
use Rattle.gq_outcomes.specs.internal.Keys.{each_key}
use Rattle.gq_outcomes.proofs.Key_lists.{named_by_one}
use Rattle.gq_outcomes.proofs.key.named_by_leaves.Given as goal

-- the sessions so far, with those that the leaves that are left name, are all
abbrev pub invariant-loop-leaf : goal.invariant-loop-leaf
invariant-loop-leaf l =
    l.order.items ++ each_key named_by_one (drop l.leaf l.machine.world.leaves) ≡ each_key named_by_one l.machine.world.leaves
