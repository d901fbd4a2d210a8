use Rattle.std.proofs.Common.{◌≡◌, ◌++◌, drop}
use Rattle.gq_outcomes.specs.internal.Key_parts.{entries_in, slot_in}
use Rattle.gq_outcomes.specs.internal.Keys.{each_key, list_key, option_key, text_key}
use Rattle.gq_outcomes.proofs.slot_key.push_entries.Given as goal

-- the bytes so far, with those of the entries that are left, are all
abbrev pub invariant-loop-index : goal.invariant-loop-index
invariant-loop-index l =
    let entries = entries_in (slot_in l.machine l.slot_id) in
    l.key.items ++ each_key (option_key text_key) (drop l.index entries) ≡ l.fn.key.items ++ list_key (option_key text_key) entries
