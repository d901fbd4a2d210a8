use Rattle.std.proofs.Common.{◌≡◌, ◌++◌, drop}
use Rattle.gq_outcomes.specs.internal.Key_parts.{kept_leaf_key}
use Rattle.gq_outcomes.specs.internal.Keys.{each_key, list_key}
use Rattle.gq_outcomes.proofs.key.push_leaves.Given as goal

-- the bytes so far, with those of the leaves that are left, are all
abbrev pub invariant-loop-number : goal.invariant-loop-number
invariant-loop-number l =
    let leaves = l.machine.world.leaves in
    l.key.items ++ each_key (kept_leaf_key l.order) (drop l.number leaves) ≡ l.fn.key.items ++ list_key (kept_leaf_key l.order) leaves
