use Rattle.gq_slots.specs.Slots.{Slots}
use Rattle.gq_slots.proofs.Slot_call_effects.{at_inside, is_among, takes}
use Rattle.gq_slots.proofs.Slots_view_fields.{slots_of}
use Rattle.gq_slots.proofs.slots.Slots.take.Goals as goal

pub take-requires-clause-kept : goal.take-requires-clause-kept
take-requires-clause-kept c =
    let s : Slots = slots_of c.self.inside in
    let a = at_inside c.args.self.now s c.args.slot_id c.index_mut.result.now c.content-content.result c.holder-holder.result c.self.view_is c.self.invariant
    c.requires.there c.holder-holder.ensures.is c.holder-holder.ensures.there c.content-content.ensures.is c.index_mut.ensures.value
    c.leaf_account-account.ensures in
    is_among s c.args.slot_id c.index_mut.result.now c.content-content.result a

pub invariant_of-self : goal.invariant_of-self
invariant_of-self c =
    let s : Slots = slots_of c.self.inside in
    let a = at_inside c.args.self.now s c.args.slot_id c.index_mut.result.now c.content-content.result c.holder-holder.result c.self.view_is c.self.invariant
    c.requires.there c.holder-holder.ensures.is c.holder-holder.ensures.there c.content-content.ensures.is c.index_mut.ensures.value
    c.leaf_account-account.ensures in
    let e = c.take.ensures in
    (takes c.args.self.now s c.take.new.store c.args.slot_id c.index_mut.result.now c.take.new.heap c.content-content.result c.args.index c.holder-holder.result
    c.take.result c.self.view_is a c.laws.ensures.trading c.holder-holder.ensures.is e.rest e.taken e.err).0

pub returns-clause-taken : goal.returns-clause-taken
returns-clause-taken c =
    let s : Slots = slots_of c.self.inside in
    let a = at_inside c.args.self.now s c.args.slot_id c.index_mut.result.now c.content-content.result c.holder-holder.result c.self.view_is c.self.invariant
    c.requires.there c.holder-holder.ensures.is c.holder-holder.ensures.there c.content-content.ensures.is c.index_mut.ensures.value
    c.leaf_account-account.ensures in
    let e = c.take.ensures in
    (takes c.args.self.now s c.take.new.store c.args.slot_id c.index_mut.result.now c.take.new.heap c.content-content.result c.args.index c.holder-holder.result
    c.take.result c.self.view_is a c.laws.ensures.trading c.holder-holder.ensures.is e.rest e.taken e.err).1
