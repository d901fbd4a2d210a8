use Rattle.gq_slots.specs.Slots.{Slots}
use Rattle.gq_slots.proofs.Slot_call_effects.{at_inside, frees, is_among}
use Rattle.gq_slots.proofs.Slots_view_fields.{slots_of}
use Rattle.gq_slots.proofs.slots.Slots.free.Goals as goal

pub free-requires : goal.free-requires
free-requires c =
    let s : Slots = slots_of c.self.inside in
    let a = at_inside c.args.self.now s c.args.slot_id c.index_mut.result.now c.content-content.result c.holder-holder.result c.self.view_is c.self.invariant
    c.requires.there c.holder-holder.ensures.is c.holder-holder.ensures.there c.content-content.ensures.is c.index_mut.ensures.value
    c.leaf_account-account.ensures in
    record { kept = is_among s c.args.slot_id c.index_mut.result.now c.content-content.result a }

pub invariant_of-self : goal.invariant_of-self
invariant_of-self c =
    let s : Slots = slots_of c.self.inside in
    let a = at_inside c.args.self.now s c.args.slot_id c.index_mut.result.now c.content-content.result c.holder-holder.result c.self.view_is c.self.invariant
    c.requires.there c.holder-holder.ensures.is c.holder-holder.ensures.there c.content-content.ensures.is c.index_mut.ensures.value
    c.leaf_account-account.ensures in
    let e = c.free.ensures in
    (frees c.args.self.now s c.free.new.store c.clear.new.trades c.clear.new.own.items c.args.slot_id c.index_mut.result.now c.free.new.heap
    c.content-content.result c.holder-holder.result c.self.view_is a c.laws.ensures.trading c.holder-holder.ensures.is c.requires.slot e.rest e.changes e.pays
    e.peaks c.clear.ensures.trades c.clear.ensures.own).0

pub returns : goal.returns
returns c =
    let s : Slots = slots_of c.self.inside in
    let a = at_inside c.args.self.now s c.args.slot_id c.index_mut.result.now c.content-content.result c.holder-holder.result c.self.view_is c.self.invariant
    c.requires.there c.holder-holder.ensures.is c.holder-holder.ensures.there c.content-content.ensures.is c.index_mut.ensures.value
    c.leaf_account-account.ensures in
    let e = c.free.ensures in
    (frees c.args.self.now s c.free.new.store c.clear.new.trades c.clear.new.own.items c.args.slot_id c.index_mut.result.now c.free.new.heap
    c.content-content.result c.holder-holder.result c.self.view_is a c.laws.ensures.trading c.holder-holder.ensures.is c.requires.slot e.rest e.changes e.pays
    e.peaks c.clear.ensures.trades c.clear.ensures.own).1
