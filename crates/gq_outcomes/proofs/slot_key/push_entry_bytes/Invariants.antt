use Rattle.std.proofs.Common.{◌≡◌, ◌++◌, drop}
use Rattle.gq_machine.specs.Readers.{entry_at}
use Rattle.gq_model.specs.machine.World.{slot_at}
use Rattle.gq_trade.specs.Seen_sessions.{slot_id_seen}
use Rattle.gq_outcomes.specs.internal.Key_parts.{entry_bytes}
use Rattle.gq_outcomes.specs.internal.Keys.{each_key, number_key, text_key}
use Rattle.gq_outcomes.proofs.slot_key.push_entry_bytes.Given as goal

-- the bytes so far, with those of what is left of the entry, are all
abbrev pub invariant-loop-offset : goal.invariant-loop-offset
invariant-loop-offset l =
    let bytes = entry_bytes (entry_at l.index (slot_at l.machine.world (slot_id_seen l.slot_id))) in
    l.key.items ++ each_key number_key (drop l.offset bytes) ≡ l.fn.key.items ++ text_key bytes
