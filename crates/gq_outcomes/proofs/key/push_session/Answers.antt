use Rattle.std.proofs.Common.{◌∙◌, ◌++◌, ◌∷◌, [], ap}
use Rattle.std.proofs.lemmas.Result.{on_ok_weaker}
use Rattle.gq_laws.specs.Renamed.{renamed_slot_id}
use Rattle.gq_prepared.specs.Prepared.{names_of}
use Rattle.gq_trade.specs.Seen_sessions.{slot_id_seen}
use Rattle.std.specs.Prelude.{get_or}
use Rattle.gq_outcomes.specs.internal.Key_parts.{place_in}
use Rattle.gq_outcomes.specs.internal.Keys.{flag, number_key, slot_id_key, text_key}
use Rattle.gq_outcomes.proofs.Key_lists.{behind}
use Rattle.gq_outcomes.proofs.key.push_session.Goals as goal

pub returns : goal.returns
returns c =
    let s = c.args.state in
    let accepted = flag s.accepted ∷ [] in
    let caps = number_key s.donation.caps ++ accepted in
    let ram = number_key s.donation.ram ++ caps in
    let level = number_key s.level ++ ram in
    let name = text_key (get_or (names_of c.args.machine.now.scenario) s.service []) in
    let server = number_key s.server ++ (name ++ level) in
    let slot_id = slot_id_key (renamed_slot_id (place_in c.args.order.now) (slot_id_seen c.args.slot_id)) in
    on_ok_weaker c.push_byte.result
    (λ put. behind _ _ _ (number_key s.client) (slot_id ++ server) c.in_ok-push_number.ensures
    (behind _ _ _ slot_id server c.in_ok-push_slot_id.ensures
    (behind _ _ _ (number_key s.server) (name ++ level) c.in_ok-push_number-2.ensures
    (behind _ _ _ name level (c.in_ok-push_text.ensures ∙ ap (λ t. c.push_number-2.new.key.items ++ text_key t) c.service_name.ensures)
    (behind _ _ _ (number_key s.level) ram (c.in_ok-push_number-3.ensures ∙ ap (λ n. c.push_text.new.key.items ++ number_key n) c.from.ensures)
    (behind _ _ _ (number_key s.donation.ram) caps c.in_ok-push_number-4.ensures
    (behind _ _ _ (number_key s.donation.caps) accepted c.in_ok-push_number-5.ensures
    (put ∙ ap (λ b. c.push_number-5.new.key.items ++ b ∷ []) c.flag.ensures)))))))) c.push_byte.ensures
