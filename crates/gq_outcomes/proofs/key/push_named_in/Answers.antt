use Rattle.std.proofs.Common.{◌<◌, ◌≤◌, ◌∙◌, ◌++◌, ap, sym, subst}
use Rattle.gq_model.specs.machine.World.{Empty, session_at}
use Rattle.gq_trade.specs.declared.session.SlotId.TheVariants.{InSession}
use Rattle.gq_outcomes.specs.Same.{session_slots}
use Rattle.gq_outcomes.specs.internal.Key_parts.{slot_in}
use Rattle.gq_outcomes.specs.internal.Keys.{each_key}
use Rattle.gq_outcomes.proofs.Kept_parts.{bank_slot}
use Rattle.gq_outcomes.proofs.Kept_readers.{bank_slots_count, is_there}
use Rattle.gq_outcomes.proofs.Key_lists.{key_put, key_whole, named_each, named_one}
use Rattle.gq_outcomes.proofs.key.push_named_in.Goals as goal

pub push_named-requires : goal.push_named-requires
push_named-requires c = (is_there c.args.machine.now c.args.session c.in-Some._state c.in-Some.ensures.some, c.loop-slot-test.true)

pub loop-slot-preserved : goal.loop-slot-preserved
loop-slot-preserved c =
    let l = c.loop-slot in
    let m = c.args.machine.now in
    let slots = session_slots (session_at m.world c.args.session) in
    key_put named_one slots l.slot Empty (slot_in m (InSession c.args.session l.slot)) l.order.items c.push_named.new.order.items
    (c.args.order.now.items ++ each_key named_one slots)
    (subst (λ n. l.slot < n) (sym (bank_slots_count m c.requires c.args.session (is_there m c.args.session c.in-Some._state c.in-Some.ensures.some)))
    c.loop-slot-test.true)
    (bank_slot (session_at m.world c.args.session) l.slot) c.in_ok-push_named.ensures l.invariant

pub returns : goal.returns
returns c =
    let l = c.loop-slot in
    let m = c.args.machine.now in
    let slots = session_slots (session_at m.world c.args.session) in
    key_whole named_one slots l.slot l.order.items (c.args.order.now.items ++ each_key named_one slots)
    (subst (λ n. n ≤ l.slot) (sym (bank_slots_count m c.requires c.args.session (is_there m c.args.session c.in-Some._state c.in-Some.ensures.some)))
    c.loop-slot-test.false) l.invariant
    ∙ ap (λ t. c.args.order.now.items ++ t) (sym (named_each slots))
