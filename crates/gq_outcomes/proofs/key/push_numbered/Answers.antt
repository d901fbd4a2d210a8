use Rattle.std.proofs.Common.{◌∙◌, ◌++◌, ◌∷◌, [], ap, sym}
use Rattle.std.proofs.lemmas.Result.{on_ok_weaker}
use Rattle.gq_laws.specs.Renamed.{renamed_session}
use Rattle.gq_model.specs.machine.World.{session_object}
use Rattle.gq_outcomes.specs.Same.{session_slots}
use Rattle.gq_outcomes.specs.internal.Key_parts.{kept_slot_key, place_in, session_head_key, slot_or_empty}
use Rattle.gq_outcomes.specs.internal.Keys.{list_key}
use Rattle.gq_outcomes.proofs.Kept_parts.{numbered_some}
use Rattle.gq_outcomes.proofs.Kept_readers.{is_there, stands_somewhere, state_is}
use Rattle.gq_outcomes.proofs.Key_lists.{behind}
use Rattle.gq_outcomes.proofs.key.push_numbered.Goals as goal

pub unreachable-requires : goal.unreachable-requires
unreachable-requires c =
    stands_somewhere c.args.machine.now c.args.session c.in-Some.state c.in-Some.ensures.some c.in_default-slot_of.ensures

pub push_slot-requires : goal.push_slot-requires
push_slot-requires c = is_there c.args.machine.now c.args.session c.in-Some.state c.in-Some.ensures.some

pub returns : goal.returns
returns c =
    let m = c.args.machine.now in
    let order = c.args.order.now in
    let state = c.in-Some.state in
    let session = c.in-Some.ensures.some.session in
    let there = c.in-Some.ensures.some.there in
    let head = session_head_key (renamed_session (place_in order) session) in
    let object = kept_slot_key order session.object in
    let slots = list_key (kept_slot_key order) session.slots in
    let is = state_is m c.args.session state c.in-Some-slot_of.slot_id order c.in-Some.ensures.some c.in-Some-slot_of.ensures in
    on_ok_weaker c.push_session_slots.result
    (λ put. behind _ _ _ (1 ∷ []) (head ++ (object ++ slots)) c.in_ok-push_byte.ensures
    (behind _ _ _ head (object ++ slots) (c.in_ok-push_session.ensures ∙ ap (λ t. c.push_byte-2.new.key.items ++ t) is)
    (behind _ _ _ object slots
    (c.in_ok-push_slot.ensures ∙ ap (λ o. c.push_session.new.key.items ++ kept_slot_key order (slot_or_empty (session_object o))) there)
    (put ∙ ap (λ o. c.push_slot.new.key.items ++ list_key (kept_slot_key order) (session_slots o)) there)))
    ∙ ap (λ t. c.args.key.now.items ++ t) (sym (numbered_some m.world order c.args.session session there))) c.push_session_slots.ensures
