use Rattle.gq_slots.specs.Slots.{Slots}
use Rattle.gq_slots.proofs.Slots_view_fields.{slots_of}
use Rattle.gq_slots.proofs.Link_mark_contents.{marks}
use Rattle.gq_slots.proofs.slots.Slots.mark.Goals as goal

pub invariant_of-self : goal.invariant_of-self
invariant_of-self c =
    let s : Slots = slots_of c.self.inside in
    (marks c.args.self.now s c.replace.new.trades c.replace.new.own.items c.args.slot_id c.index-heap.result.now c.content-content.result c.args.contents
    c.holder-holder.result c.self.view_is c.self.invariant c.laws.ensures.trading c.requires.slot c.requires.there c.holder-holder.ensures.is
    c.holder-holder.ensures.there c.content-content.ensures.is c.index-heap.ensures c.requires.free c.requires.mark c.replace.ensures.trades
    c.replace.ensures.own).0

pub returns : goal.returns
returns c =
    let s : Slots = slots_of c.self.inside in
    (marks c.args.self.now s c.replace.new.trades c.replace.new.own.items c.args.slot_id c.index-heap.result.now c.content-content.result c.args.contents
    c.holder-holder.result c.self.view_is c.self.invariant c.laws.ensures.trading c.requires.slot c.requires.there c.holder-holder.ensures.is
    c.holder-holder.ensures.there c.content-content.ensures.is c.index-heap.ensures c.requires.free c.requires.mark c.replace.ensures.trades
    c.replace.ensures.own).1
