-- Slots one after the other.
use Rattle.std.proofs.Common.{◌<◌, ◌≤◌, IfSome, arith, sym, subst}
use Rattle.gq_model.specs.machine.Scenario.{system}
use Rattle.gq_model.specs.machine.World.{slot_at}
use Rattle.gq_trade.specs.Seen_sessions.{slot_id_seen}
use Rattle.gq_machine.specs.Readers.{HasSlotId}
use Rattle.gq_traces.specs.Account_state.{slot_items}
use Rattle.gq_traces.specs.internal.Slot_items.{Prints_items, bank_place, bank_size}
use Rattle.gq_traces.proofs.Printed_banks.{has_slot_id, slots_end, slots_first, slots_next}
use Rattle.gq_traces.proofs.items.write_slots.Goals as goal

pub loop-slot-init : goal.loop-slot-init
loop-slot-init g c = slots_first g.W.Write.contents c.args.machine.now c.args.bank c.args.out.now c.args.going

pub write_slot-going-requires-clause-slot_id : goal.write_slot-going-requires-clause-slot_id
write_slot-going-requires-clause-slot_id g c =
    let less : c.loop-slot.slot < bank_size c.args.bank = omega (arith, c.loop-slot-test.true, c.count-slot-end.ensures.size) in
    subst (HasSlotId c.args.machine.now) (sym c.slot_id-slot_id.ensures) (has_slot_id c.args.machine.now c.args.bank c.loop-slot.slot c.requires.bank less)

pub loop-slot-preserved : goal.loop-slot-preserved
loop-slot-preserved g c =
    let m = c.args.machine.now in
    let l = c.loop-slot in
    let w = c.write_slot-going in
    let less : l.slot < bank_size c.args.bank = omega (arith, c.loop-slot-test.true, c.count-slot-end.ensures.size) in
    slots_next g.W.Write.contents m c.args.bank c.args.out.now l.out w.new.out c.args.going l.going w.result l.slot c.requires.bank less l.invariant
    (subst (λ s. IfSome (slot_at m.world (slot_id_seen s))
    (λ slot. Prints_items g.W.Write.contents l.out w.new.out l.going w.result m (slot_items (system m.scenario) m.world (bank_place c.args.bank l.slot) slot)))
    c.slot_id-slot_id.ensures (subst (λ p. IfSome (slot_at m.world (slot_id_seen c.slot_id-slot_id.result))
    (λ slot. Prints_items g.W.Write.contents l.out w.new.out l.going w.result m (slot_items (system m.scenario) m.world p slot)))
    c.place-place.ensures w.ensures))

pub returns : goal.returns
returns g c =
    let l = c.loop-slot in
    let least : bank_size c.args.bank ≤ l.slot = omega (arith, c.loop-slot-test.false, c.count-slot-end.ensures.size) in
    slots_end g.W.Write.contents c.args.machine.now c.args.bank c.args.out.now l.out c.args.going l.going l.slot c.requires.bank least l.invariant
