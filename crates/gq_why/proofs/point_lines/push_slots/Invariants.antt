use Rattle.std.proofs.Common.{◌≡◌, ◌++◌, drop}
use Rattle.gq_caps.specs.Known.{all_known}
use Rattle.gq_why.specs.Why.{item_lines}
use Rattle.gq_why.proofs.point_lines.push_slots.Given as goal

-- the lines so far, with those of the slots that are left, are all
abbrev pub invariant-loop-slot : goal.invariant-loop-slot
invariant-loop-slot l =
    l.text.items ++ item_lines l.resource l.letter l.slot (all_known (drop l.slot l.kinds))
    ≡ l.fn.text.items ++ item_lines l.resource l.letter 0 (all_known l.kinds)
