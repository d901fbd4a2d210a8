use Rattle.std.proofs.Common.{◌≡◌, ◌++◌, drop}
use Rattle.gq_outcomes.specs.internal.Key_parts.{leaf_at}
use Rattle.gq_outcomes.specs.internal.Keys.{each_key}
use Rattle.gq_outcomes.proofs.Key_lists.{named_one}
use Rattle.gq_outcomes.proofs.key.push_named_by.Given as goal

-- the sessions so far, with those that the slots that are left name, are all
abbrev pub invariant-loop-slot : goal.invariant-loop-slot
invariant-loop-slot l =
    let slots = (leaf_at l.machine.world l.leaf).slots in
    l.order.items ++ each_key named_one (drop l.slot slots) ≡ l.fn.order.items ++ each_key named_one slots
