use Rattle.std.proofs.Common.{◌<◌, ◌≤◌, ◌∙◌, ◌++◌, None, subst}
use Rattle.gq_machine.specs.Readers.{entry_at}
use Rattle.gq_model.specs.machine.World.{slot_at}
use Rattle.gq_trade.specs.Seen_sessions.{slot_id_seen}
use Rattle.gq_outcomes.specs.internal.Key_parts.{entries_in, slot_in}
use Rattle.gq_outcomes.specs.internal.Keys.{list_key, option_key, text_key}
use Rattle.gq_outcomes.proofs.Key_lists.{key_put, key_whole}
use Rattle.gq_outcomes.proofs.Kept_readers.{entries_count, entry_of}
use Rattle.gq_outcomes.proofs.slot_key.push_entries.Goals as goal

pub loop-index-preserved : goal.loop-index-preserved
loop-index-preserved c =
    let l = c.loop-index in
    let o = slot_at c.args.machine.now.world (slot_id_seen c.args.slot_id) in
    let entries = entries_in (slot_in c.args.machine.now c.args.slot_id) in
    key_put (option_key text_key) entries l.index None (entry_at l.index o) l.key.items c.push_entry.new.key.items
    (c.args.key.now.items ++ list_key (option_key text_key) entries)
    (subst (λ n. l.index < n) (c.requires.count ∙ entries_count o) c.loop-index-test.true) (entry_of o l.index) c.in_ok-push_entry.ensures l.invariant

pub returns : goal.returns
returns c =
    let l = c.loop-index in
    let o = slot_at c.args.machine.now.world (slot_id_seen c.args.slot_id) in
    let entries = entries_in (slot_in c.args.machine.now c.args.slot_id) in
    key_whole (option_key text_key) entries l.index l.key.items (c.args.key.now.items ++ list_key (option_key text_key) entries)
    (subst (λ n. n ≤ l.index) (c.requires.count ∙ entries_count o) c.loop-index-test.false) l.invariant
