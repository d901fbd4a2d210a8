use Rattle.std.proofs.Common.{◌<◌, ◌≤◌, ◌∙◌, ◌++◌, ap, sym, subst}
use Rattle.gq_model.specs.machine.World.{Empty}
use Rattle.gq_trade.specs.declared.session.SlotId.TheVariants.{InLeaf}
use Rattle.gq_outcomes.specs.internal.Key_parts.{leaf_at, slot_in}
use Rattle.gq_outcomes.specs.internal.Keys.{each_key}
use Rattle.gq_outcomes.proofs.Kept_parts.{own_slot}
use Rattle.gq_outcomes.proofs.Kept_readers.{own_slots_count}
use Rattle.gq_outcomes.proofs.Key_lists.{key_put, key_whole, named_each, named_one}
use Rattle.gq_outcomes.proofs.key.push_named_by.Goals as goal

pub loop-slot-preserved : goal.loop-slot-preserved
loop-slot-preserved c =
    let l = c.loop-slot in
    let m = c.args.machine.now in
    let slots = (leaf_at m.world c.args.leaf).slots in
    key_put named_one slots l.slot Empty (slot_in m (InLeaf c.args.leaf l.slot)) l.order.items c.push_named.new.order.items
    (c.args.order.now.items ++ each_key named_one slots)
    (subst (λ n. l.slot < n) (sym (own_slots_count m c.requires.sound c.args.leaf c.requires.leaf)) c.loop-slot-test.true)
    (own_slot m.world.leaves c.args.leaf l.slot) c.in_ok-push_named.ensures l.invariant

pub returns : goal.returns
returns c =
    let l = c.loop-slot in
    let m = c.args.machine.now in
    let slots = (leaf_at m.world c.args.leaf).slots in
    key_whole named_one slots l.slot l.order.items (c.args.order.now.items ++ each_key named_one slots)
    (subst (λ n. n ≤ l.slot) (sym (own_slots_count m c.requires.sound c.args.leaf c.requires.leaf)) c.loop-slot-test.false) l.invariant
    ∙ ap (λ t. c.args.order.now.items ++ t) (sym (named_each slots))
