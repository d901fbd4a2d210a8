use Rattle.std.proofs.Common.{◌≡◌, ◌++◌, drop}
use Rattle.gq_outcomes.specs.internal.Key_parts.{kept_slot_key, leaf_at}
use Rattle.gq_outcomes.specs.internal.Keys.{each_key, list_key}
use Rattle.gq_outcomes.proofs.key.push_own_slots.Given as goal

-- the bytes so far, with those of the slots that are left, are all
abbrev pub invariant-loop-slot : goal.invariant-loop-slot
invariant-loop-slot l =
    let slots = (leaf_at l.machine.world l.leaf).slots in
    l.key.items ++ each_key (kept_slot_key l.order) (drop l.slot slots) ≡ l.fn.key.items ++ list_key (kept_slot_key l.order) slots
