use Rattle.std.proofs.Common.{◌∙◌, ◌++◌, ◌∷◌, [], ap, sym, append_assoc}
use Rattle.std.proofs.lemmas.Result.{on_ok_weaker}
use Rattle.gq_model.specs.machine.World.{slot_at}
use Rattle.gq_trade.specs.Seen_sessions.{slot_id_seen}
use Rattle.gq_outcomes.specs.Same.{place_of}
use Rattle.gq_outcomes.specs.internal.Keys.{number_key}
use Rattle.gq_outcomes.proofs.Kept_readers.{session_key_is}
use Rattle.gq_outcomes.proofs.slot_key.push_named.Goals as goal

pub returns : goal.returns
returns c =
    let key = c.args.key.now.items in
    let order = c.args.order.now in
    let place = number_key (place_of c.args.session order) in
    let o = slot_at c.args.machine.now.world (slot_id_seen c.args.slot_id) in
    let is = session_key_is order o c.args.session c.awaits.result c.requires.named c.awaits.ensures in
    on_ok_weaker c.push_number.result
    (λ put. put ∙ (λ i. c.in_ok-push_byte.ensures i ++ number_key (c.place_of.ensures i)) ∙ append_assoc key (c.named_tag.result ∷ []) place
    ∙ ap (λ t. key ++ t ∷ place) c.named_tag.ensures ∙ ap (λ t. key ++ t) (sym is)) c.push_number.ensures
