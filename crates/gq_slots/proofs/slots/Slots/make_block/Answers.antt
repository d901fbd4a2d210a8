use Rattle.std.proofs.Common.{replicate, sym, ◌∙◌}
use Rattle.gq_model.specs.declared.program.Form.TheVariants as form
use Rattle.gq_model.specs.machine.World as world
use Rattle.gq_contents.specs.declared.content.Content.TheVariants as content
use Rattle.gq_slots.specs.Slots.{Slots}
use Rattle.gq_slots.proofs.Slot_call_effects.{at_inside, is_among, makes_block, same_parts}
use Rattle.gq_slots.proofs.Requested_session_world.{on_err}
use Rattle.gq_slots.proofs.Slots_view_fields.{slots_of}
use Rattle.gq_slots.proofs.slots.Slots.make_block.Goals as goal

pub make_block-requires-clause-kept : goal.make_block-requires-clause-kept
make_block-requires-clause-kept c =
    let s : Slots = slots_of c.self.inside in
    let a = at_inside c.args.self.now s c.args.slot_id c.index_mut.result.now content.Empty c.holder-holder.result c.self.view_is c.self.invariant
    c.requires.can.there c.holder-holder.ensures.is c.holder-holder.ensures.there (sym c.requires.can.empty) c.index_mut.ensures.value
    c.leaf_account-account.ensures in
    is_among s c.args.slot_id c.index_mut.result.now content.Empty a

pub invariant_of-self-2 : goal.invariant_of-self-2
invariant_of-self-2 c =
    let s : Slots = slots_of c.self.inside in
    let a = at_inside c.args.self.now s c.args.slot_id c.index_mut.result.now content.Empty c.holder-holder.result c.self.view_is c.self.invariant
    c.requires.can.there c.holder-holder.ensures.is c.holder-holder.ensures.there (sym c.requires.can.empty) c.index_mut.ensures.value
    c.leaf_account-account.ensures in
    let e = c.in_ok-made.ensures in
    (makes_block c.args.self.now s c.make_block.new.store c.fill.new.trades c.fill.new.own.items c.args.slot_id c.index_mut.result.now
    c.make_block.new.heap content.Empty c.in_ok-made.made (world.Bytes form.Block c.args.size (replicate c.args.size 0)) c.holder-holder.result
    c.self.view_is a c.laws.ensures.trading c.holder-holder.ensures.is c.requires.can.slot c.make_block.ensures.rest
    e.made.changes e.made.reads e.made.pays e.made.raises c.fill.ensures.trades c.fill.ensures.own).0

pub returns-clause-made : goal.returns-clause-made
returns-clause-made c =
    let s : Slots = slots_of c.self.inside in
    let a = at_inside c.args.self.now s c.args.slot_id c.index_mut.result.now content.Empty c.holder-holder.result c.self.view_is c.self.invariant
    c.requires.can.there c.holder-holder.ensures.is c.holder-holder.ensures.there (sym c.requires.can.empty) c.index_mut.ensures.value
    c.leaf_account-account.ensures in
    let e = c.in_ok-made.ensures in
    (makes_block c.args.self.now s c.make_block.new.store c.fill.new.trades c.fill.new.own.items c.args.slot_id c.index_mut.result.now
    c.make_block.new.heap content.Empty c.in_ok-made.made (world.Bytes form.Block c.args.size (replicate c.args.size 0)) c.holder-holder.result
    c.self.view_is a c.laws.ensures.trading c.holder-holder.ensures.is c.requires.can.slot c.make_block.ensures.rest
    e.made.changes e.made.reads e.made.pays e.made.raises c.fill.ensures.trades c.fill.ensures.own).1

pub returns-in_err-made-clause-unchanged : goal.returns-in_err-made-clause-unchanged
returns-in_err-made-clause-unchanged c =
    let err = c.in_err-made.ensures.err in
    on_err c.from_residual.result
    (same_parts (slots_of c.self.inside) c.make_block.new.store c.index_mut.result.now c.make_block.new.heap c.holder-holder.result err.0 err.1
    (sym c.index_mut.ensures.value) ∙ c.self.view_is)
