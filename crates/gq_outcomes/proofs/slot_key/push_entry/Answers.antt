use Rattle.std.proofs.Common.{◌≡◌, ◌∙◌, ◌++◌, ◌∷◌, [], None, false, ap, sym, append_assoc}
use Rattle.std.proofs.lemmas.Result.{on_ok_weaker}
use Rattle.gq_machine.specs.Readers.{entry_at, entry_size}
use Rattle.gq_model.specs.machine.World.{slot_at}
use Rattle.gq_trade.specs.Seen_sessions.{slot_id_seen}
use Rattle.gq_outcomes.specs.internal.Key_parts.{entry_bytes}
use Rattle.gq_outcomes.specs.internal.Keys.{option_key, text_key}
use Rattle.gq_outcomes.proofs.Kept_readers.{entry_count_is, entry_some}
use Rattle.gq_outcomes.proofs.slot_key.push_entry.Goals as goal

pub returns-then-not-has_entry : goal.returns-then-not-has_entry
returns-then-not-has_entry c =
    on_ok_weaker c.push_byte.result
    (λ put. put ∙ ap (λ e. c.args.key.now.items ++ option_key text_key e) (sym (c.has_entry.ensures.0 c.if-not-has_entry.true))) c.push_byte.ensures

pub push_entry_bytes-requires-clause-long : goal.push_entry_bytes-requires-clause-long
push_entry_bytes-requires-clause-long c =
    let entry = entry_at c.args.index (slot_at c.args.machine.now.world (slot_id_seen c.args.slot_id)) in
    let some : entry ≡ None → ⊥ = λ none. (let absent : c.has_entry.result ≡ false = c.has_entry.ensures.1 none in cc (absent, c.if-not-has_entry.false)) in
    c.requires.size ∙ entry_count_is entry (entry_size (slot_at c.args.machine.now.world (slot_id_seen c.args.slot_id))) some c.entry_laws.ensures

pub returns : goal.returns
returns c =
    let key = c.args.key.now.items in
    let entry = entry_at c.args.index (slot_at c.args.machine.now.world (slot_id_seen c.args.slot_id)) in
    let some : entry ≡ None → ⊥ = λ none. (let absent : c.has_entry.result ≡ false = c.has_entry.ensures.1 none in cc (absent, c.if-not-has_entry.false)) in
    on_ok_weaker c.push_entry_bytes.result
    (λ put. put ∙ ap (λ t. t ++ text_key (entry_bytes entry)) c.in_ok-push_byte.ensures ∙ append_assoc key (1 ∷ []) (text_key (entry_bytes entry))
    ∙ ap (λ t. key ++ t) (sym (entry_some entry some))) c.push_entry_bytes.ensures
