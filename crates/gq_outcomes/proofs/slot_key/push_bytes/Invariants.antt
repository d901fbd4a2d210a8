use Rattle.std.proofs.Common.{◌≡◌, ◌≤◌, ◌++◌, drop}
use Rattle.gq_outcomes.specs.internal.Key_parts.{memory_in, slot_in}
use Rattle.gq_outcomes.specs.internal.Keys.{bytes_key}
use Rattle.gq_outcomes.proofs.slot_key.push_bytes.Given as goal

-- the bytes so far, with those of the memory that is left, are all
abbrev pub invariant-loop-index : goal.invariant-loop-index
invariant-loop-index l = record {
  key : l.key.items ++ bytes_key l.zeros (drop l.index (memory_in (slot_in l.machine l.slot_id)))
      ≡ l.fn.key.items ++ bytes_key 0 (memory_in (slot_in l.machine l.slot_id));
  few : l.zeros ≤ l.index;
}
