-- The items of a leaf that lives.
use Rattle.std.proofs.Common.{IfSome, sym, subst}
use Rattle.std.specs.Prelude.{slice_get}
use Rattle.gq_model.specs.machine.Scenario.{system}
use Rattle.gq_model.specs.declared.program.OperandSlot.TheVariants.{Own}
use Rattle.gq_traces.specs.Account_state.{slots_items}
use Rattle.gq_traces.specs.internal.Slot_items.{HasBank, Prints_items, bank_slots}
use Rattle.gq_traces.specs.declared.items.SlotRow.TheVariants.{OfLeaf}
use Rattle.gq_traces.proofs.Printed_children.{live_printed, own_slots}
use Rattle.gq_traces.proofs.Sound_world_leaves.{leaf_bank, leaves_are, peaks_there}
use Rattle.gq_traces.proofs.account_state.write_live.Goals as goal

pub write_slots-going-requires-clause-bank : goal.write_slots-going-requires-clause-bank
write_slots-going-requires-clause-bank g c =
    subst (λ x. HasBank c.args.machine.now (OfLeaf x)) (sym c.index.ensures) (leaf_bank c.args.machine.now c.requires.stands c.args.leaf c.requires.leaf)

pub write_slots-going-requires-clause-leaves : goal.write_slots-going-requires-clause-leaves
write_slots-going-requires-clause-leaves g c = leaves_are c.args.machine.now c.requires.stands

pub write_places-going-requires-clause-peaks : goal.write_places-going-requires-clause-peaks
write_places-going-requires-clause-peaks g c = peaks_there c.args.machine.now c.requires.stands c.args.leaf c.requires.leaf

pub returns : goal.returns
returns g c d l named there =
    let m = c.args.machine.now in
    let q = c.write_given-going in
    let o = c.write_slots-going in
    let p = c.write_places-going in
    let slots = subst (λ x. IfSome (bank_slots m.world (OfLeaf x))
    (λ slots. Prints_items g.W.Write.contents q.new.out o.new.out q.result o.result m (slots_items (system m.scenario) m.world Own 0 slots))) c.index.ensures
    o.ensures in
    live_printed g.W.Write.contents m c.args.leaf d l c.args.out.now q.new.out o.new.out p.new.out c.write_sessions.new.out c.args.going q.result
    o.result p.result c.write_sessions.result there (q.ensures d l named there)
    (own_slots (slice_get m.world.leaves c.args.leaf)
    (λ slots. Prints_items g.W.Write.contents q.new.out o.new.out q.result o.result m (slots_items (system m.scenario) m.world Own 0 slots)) slots) p.ensures
    c.write_sessions.ensures
