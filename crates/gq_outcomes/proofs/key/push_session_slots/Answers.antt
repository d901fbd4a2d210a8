use Rattle.std.proofs.Common.{◌<◌, ◌≤◌, ◌++◌, sym, subst}
use Rattle.gq_model.specs.machine.World.{Empty, session_at}
use Rattle.gq_trade.specs.declared.session.SlotId.TheVariants.{InSession}
use Rattle.gq_outcomes.specs.Same.{session_slots}
use Rattle.gq_outcomes.specs.internal.Key_parts.{kept_slot_key, slot_in}
use Rattle.gq_outcomes.specs.internal.Keys.{list_key}
use Rattle.gq_outcomes.proofs.Kept_parts.{bank_slot}
use Rattle.gq_outcomes.proofs.Kept_readers.{bank_slots_count}
use Rattle.gq_outcomes.proofs.Key_lists.{count_put, key_put, key_whole}
use Rattle.gq_outcomes.proofs.key.push_session_slots.Goals as goal

pub loop-slot-init : goal.loop-slot-init
loop-slot-init c =
    let m = c.args.machine.now in
    count_put (kept_slot_key c.args.order.now) (session_slots (session_at m.world c.args.session)) 8 c.args.key.now.items c.push_number.new.key.items
    (sym (bank_slots_count m c.requires.sound c.args.session c.requires.there)) c.in_ok-push_number.ensures

pub loop-slot-preserved : goal.loop-slot-preserved
loop-slot-preserved c =
    let l = c.loop-slot in
    let m = c.args.machine.now in
    let key = kept_slot_key c.args.order.now in
    let slots = session_slots (session_at m.world c.args.session) in
    key_put key slots l.slot Empty (slot_in m (InSession c.args.session l.slot)) l.key.items c.push_slot.new.key.items
    (c.args.key.now.items ++ list_key key slots)
    (subst (λ n. l.slot < n) (sym (bank_slots_count m c.requires.sound c.args.session c.requires.there)) c.loop-slot-test.true)
    (bank_slot (session_at m.world c.args.session) l.slot) c.in_ok-push_slot.ensures l.invariant

pub returns : goal.returns
returns c =
    let l = c.loop-slot in
    let m = c.args.machine.now in
    let key = kept_slot_key c.args.order.now in
    let slots = session_slots (session_at m.world c.args.session) in
    key_whole key slots l.slot l.key.items (c.args.key.now.items ++ list_key key slots)
    (subst (λ n. n ≤ l.slot) (sym (bank_slots_count m c.requires.sound c.args.session c.requires.there)) c.loop-slot-test.false) l.invariant
