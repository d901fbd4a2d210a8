use Rattle.std.proofs.Common.{refl}
use Rattle.gq_model.specs.machine.Memory.{entry_with}
use Rattle.gq_contents.specs.Contents.{with_entry}
use Rattle.gq_trade.specs.Trading.{account_of}
use Rattle.gq_slots.specs.Slots.{Slots}
use Rattle.gq_slots.proofs.Content_price_facts.{entry_same, places_entry, price_entry}
use Rattle.gq_slots.proofs.Slot_call_effects.{at_inside, is_among, stays}
use Rattle.gq_slots.proofs.Slots_view_fields.{slots_of}
use Rattle.gq_slots.proofs.slots.Slots.poke.Goals as goal

pub poke-requires-clause-kept : goal.poke-requires-clause-kept
poke-requires-clause-kept c =
    let s : Slots = slots_of c.self.inside in
    let acc = account_of s.trades.trading c.holder-holder.result in
    let a = at_inside c.args.self.now s c.args.slot_id c.index.result.now c.content-content.result c.holder-holder.result c.self.view_is c.self.invariant
    c.requires.there c.holder-holder.ensures.is c.holder-holder.ensures.there c.content-content.ensures.is c.index.ensures refl in
    let among = is_among s c.args.slot_id c.index.result.now c.content-content.result a in
    (acc, among)

pub invariant_of-self : goal.invariant_of-self
invariant_of-self c =
    let s : Slots = slots_of c.self.inside in
    let acc = account_of s.trades.trading c.holder-holder.result in
    let a = at_inside c.args.self.now s c.args.slot_id c.index.result.now c.content-content.result c.holder-holder.result c.self.view_is c.self.invariant
    c.requires.there c.holder-holder.ensures.is c.holder-holder.ensures.there c.content-content.ensures.is c.index.ensures refl in
    let among = is_among s c.args.slot_id c.index.result.now c.content-content.result a in
    let e = c.poke.ensures.puts acc among in
    (stays c.args.self.now s c.poke.new.store c.args.slot_id c.index.result.now c.content-content.result
    (with_entry c.args.index (λ n. entry_with c.args.offset c.args.value)) c.self.view_is a
    c.laws.ensures.trading (c.poke.ensures.rest acc among) e.changes e.seen e.left e.caps
    (λ q y. price_entry q c.args.index (λ n. entry_with c.args.offset c.args.value) y)
    (λ k y. places_entry k c.args.index (λ n. entry_with c.args.offset c.args.value) y (λ n o. entry_same c.args.offset c.args.value n o))).0

pub returns : goal.returns
returns c =
    let s : Slots = slots_of c.self.inside in
    let acc = account_of s.trades.trading c.holder-holder.result in
    let a = at_inside c.args.self.now s c.args.slot_id c.index.result.now c.content-content.result c.holder-holder.result c.self.view_is c.self.invariant
    c.requires.there c.holder-holder.ensures.is c.holder-holder.ensures.there c.content-content.ensures.is c.index.ensures refl in
    let among = is_among s c.args.slot_id c.index.result.now c.content-content.result a in
    let e = c.poke.ensures.puts acc among in
    (stays c.args.self.now s c.poke.new.store c.args.slot_id c.index.result.now c.content-content.result
    (with_entry c.args.index (λ n. entry_with c.args.offset c.args.value)) c.self.view_is a
    c.laws.ensures.trading (c.poke.ensures.rest acc among) e.changes e.seen e.left e.caps
    (λ q y. price_entry q c.args.index (λ n. entry_with c.args.offset c.args.value) y)
    (λ k y. places_entry k c.args.index (λ n. entry_with c.args.offset c.args.value) y (λ n o. entry_same c.args.offset c.args.value n o))).1
