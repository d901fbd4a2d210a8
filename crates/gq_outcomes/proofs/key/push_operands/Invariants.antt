use Rattle.std.proofs.Common.{◌≡◌, ◌++◌, drop}
use Rattle.gq_outcomes.specs.internal.Key_parts.{leaf_at}
use Rattle.gq_outcomes.specs.internal.Keys.{each_key, number_key, text_key}
use Rattle.gq_outcomes.proofs.key.push_operands.Given as goal

-- the bytes so far, with those of the operands that are left, are all
abbrev pub invariant-loop-place : goal.invariant-loop-place
invariant-loop-place l =
    let operands = (leaf_at l.machine.world l.fn.leaf).operands in
    l.key.items ++ each_key number_key (drop l.place operands) ≡ l.fn.key.items ++ text_key operands
