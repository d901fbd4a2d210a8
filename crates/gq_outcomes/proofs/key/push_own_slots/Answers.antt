use Rattle.std.proofs.Common.{◌<◌, ◌≤◌, ◌++◌, sym, subst}
use Rattle.gq_model.specs.machine.World.{Empty}
use Rattle.gq_trade.specs.declared.session.SlotId.TheVariants.{InLeaf}
use Rattle.gq_outcomes.specs.internal.Key_parts.{kept_slot_key, leaf_at, slot_in}
use Rattle.gq_outcomes.specs.internal.Keys.{list_key}
use Rattle.gq_outcomes.proofs.Kept_parts.{own_slot}
use Rattle.gq_outcomes.proofs.Kept_readers.{own_slots_count}
use Rattle.gq_outcomes.proofs.Key_lists.{count_put, key_put, key_whole}
use Rattle.gq_outcomes.proofs.key.push_own_slots.Goals as goal

pub loop-slot-init : goal.loop-slot-init
loop-slot-init c =
    let m = c.args.machine.now in
    count_put (kept_slot_key c.args.order.now) (leaf_at m.world c.args.leaf).slots 64 c.args.key.now.items c.push_number.new.key.items
    (sym (own_slots_count m c.requires.sound c.args.leaf c.requires.leaf)) c.in_ok-push_number.ensures

pub loop-slot-preserved : goal.loop-slot-preserved
loop-slot-preserved c =
    let l = c.loop-slot in
    let m = c.args.machine.now in
    let key = kept_slot_key c.args.order.now in
    let slots = (leaf_at m.world c.args.leaf).slots in
    key_put key slots l.slot Empty (slot_in m (InLeaf c.args.leaf l.slot)) l.key.items c.push_slot.new.key.items (c.args.key.now.items ++ list_key key slots)
    (subst (λ n. l.slot < n) (sym (own_slots_count m c.requires.sound c.args.leaf c.requires.leaf)) c.loop-slot-test.true)
    (own_slot m.world.leaves c.args.leaf l.slot) c.in_ok-push_slot.ensures l.invariant

pub returns : goal.returns
returns c =
    let l = c.loop-slot in
    let m = c.args.machine.now in
    let key = kept_slot_key c.args.order.now in
    let slots = (leaf_at m.world c.args.leaf).slots in
    key_whole key slots l.slot l.key.items (c.args.key.now.items ++ list_key key slots)
    (subst (λ n. n ≤ l.slot) (sym (own_slots_count m c.requires.sound c.args.leaf c.requires.leaf)) c.loop-slot-test.false) l.invariant
