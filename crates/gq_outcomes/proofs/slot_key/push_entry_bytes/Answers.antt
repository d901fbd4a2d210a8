use Rattle.std.proofs.Common.{◌<◌, ◌≤◌, ◌∙◌, ◌++◌, ap, subst}
use Rattle.gq_machine.specs.Readers.{entry_at}
use Rattle.gq_model.specs.machine.World.{slot_at}
use Rattle.gq_trade.specs.Seen_sessions.{slot_id_seen}
use Rattle.gq_outcomes.specs.internal.Key_parts.{entry_bytes}
use Rattle.gq_outcomes.specs.internal.Keys.{number_key, text_key}
use Rattle.gq_outcomes.proofs.Key_lists.{key_put, key_whole}
use Rattle.gq_outcomes.proofs.Kept_readers.{entry_byte_is}
use Rattle.gq_outcomes.proofs.slot_key.push_entry_bytes.Goals as goal

pub loop-offset-preserved : goal.loop-offset-preserved
loop-offset-preserved c =
    let l = c.loop-offset in
    let entry = entry_at c.args.index (slot_at c.args.machine.now.world (slot_id_seen c.args.slot_id)) in
    let bytes = entry_bytes entry in
    key_put number_key bytes l.offset 0 c.entry_byte.result l.key.items c.push_number-in-loop-offset.new.key.items (c.args.key.now.items ++ text_key bytes)
    (subst (λ n. l.offset < n) c.requires.long c.loop-offset-test.true) (c.entry_byte.ensures ∙ entry_byte_is entry l.offset)
    (c.in_ok-push_number-2.ensures ∙ ap (λ n. l.key.items ++ number_key n) c.from-in-loop-offset.ensures) l.invariant

pub returns : goal.returns
returns c =
    let l = c.loop-offset in
    let bytes = entry_bytes (entry_at c.args.index (slot_at c.args.machine.now.world (slot_id_seen c.args.slot_id))) in
    key_whole number_key bytes l.offset l.key.items (c.args.key.now.items ++ text_key bytes)
    (subst (λ n. n ≤ l.offset) c.requires.long c.loop-offset-test.false) l.invariant
