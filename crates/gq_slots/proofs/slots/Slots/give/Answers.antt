use Rattle.gq_contents.specs.Contents.{removed, with_entry}
use Rattle.gq_slots.proofs.Content_price_facts.{places_entry, removed_less}
use Rattle.gq_slots.specs.Slots.{Slots}
use Rattle.gq_slots.proofs.Slot_call_effects.{at_inside, gives_place, is_among}
use Rattle.gq_slots.proofs.Slots_view_fields.{slots_of}
use Rattle.gq_slots.proofs.slots.Slots.give.Goals as goal

pub give-requires-clause-kept : goal.give-requires-clause-kept
give-requires-clause-kept c =
    let s : Slots = slots_of c.self.inside in
    let a = at_inside c.args.self.now s c.args.slot_id c.index_mut.result.now c.content-content.result c.holder-holder.result c.self.view_is c.self.invariant
    c.requires.there c.holder-holder.ensures.is c.holder-holder.ensures.there c.content-content.ensures.is c.index_mut.ensures.value
    c.leaf_account-account.ensures in
    is_among s c.args.slot_id c.index_mut.result.now c.content-content.result a

pub invariant_of-self : goal.invariant_of-self
invariant_of-self c =
    let s : Slots = slots_of c.self.inside in
    let a = at_inside c.args.self.now s c.args.slot_id c.index_mut.result.now c.content-content.result c.holder-holder.result c.self.view_is c.self.invariant
    c.requires.there c.holder-holder.ensures.is c.holder-holder.ensures.there c.content-content.ensures.is c.index_mut.ensures.value
    c.leaf_account-account.ensures in
    let e = c.give.ensures in
    (gives_place c.args.self.now s c.give.new.store c.args.slot_id c.index_mut.result.now c.give.new.heap c.content-content.result
    (with_entry c.args.index removed)
    c.holder-holder.result c.self.view_is a c.laws.ensures.trading c.holder-holder.ensures.is e.rest e.changes e.seen e.pays e.peaks
    (λ k y. places_entry k c.args.index removed y removed_less)).0

pub returns-clause-given : goal.returns-clause-given
returns-clause-given c =
    let s : Slots = slots_of c.self.inside in
    let a = at_inside c.args.self.now s c.args.slot_id c.index_mut.result.now c.content-content.result c.holder-holder.result c.self.view_is c.self.invariant
    c.requires.there c.holder-holder.ensures.is c.holder-holder.ensures.there c.content-content.ensures.is c.index_mut.ensures.value
    c.leaf_account-account.ensures in
    let e = c.give.ensures in
    (gives_place c.args.self.now s c.give.new.store c.args.slot_id c.index_mut.result.now c.give.new.heap c.content-content.result
    (with_entry c.args.index removed)
    c.holder-holder.result c.self.view_is a c.laws.ensures.trading c.holder-holder.ensures.is e.rest e.changes e.seen e.pays e.peaks
    (λ k y. places_entry k c.args.index removed y removed_less)).1
