use Rattle.std.proofs.Common.{◌≡◌, Option, List, ℕ, None, false, refl, ap, subst, ◌∙◌}
use Rattle.std.specs.Prelude.{◌↔◌}
use Rattle.gq_contents.specs.Contents.{entry_in}
use Rattle.gq_trade.specs.Trading.{account_of}
use Rattle.gq_slots.specs.Slots.{Slots, slot_of}
use Rattle.gq_slots.proofs.Slot_call_effects.{at_inside, is_among, slot_its}
use Rattle.gq_slots.proofs.Slots_view_fields.{slots_of}
use Rattle.gq_slots.proofs.slots.Slots.has_entry.Goals as goal

pub has_entry-requires-clause-kept : goal.has_entry-requires-clause-kept
has_entry-requires-clause-kept c =
    let s : Slots = slots_of c.self.inside in
    let a = at_inside c.args.self.now s c.args.slot_id c.index.result.now c.content-content.result c.holder-holder.result c.self.view_is c.self.invariant
    c.requires.there c.holder-holder.ensures.is c.holder-holder.ensures.there c.content-content.ensures.is c.index.ensures refl in
    (account_of s.trades.trading c.holder-holder.result, is_among s c.args.slot_id c.index.result.now c.content-content.result a)

pub returns : goal.returns
returns c =
    let s : Slots = slots_of c.self.inside in
    let acc = account_of s.trades.trading c.holder-holder.result in
    let a = at_inside c.args.self.now s c.args.slot_id c.index.result.now c.content-content.result c.holder-holder.result c.self.view_is c.self.invariant
    c.requires.there c.holder-holder.ensures.is c.holder-holder.ensures.there c.content-content.ensures.is c.index.ensures refl in
    subst (λ (o : Option (List ℕ)). (c.has_entry.result ≡ false) ↔ (o ≡ None))
    (ap (entry_in c.args.index)
    (slot_its s c.args.slot_id c.content-content.result acc a.paid a.content ∙ ap (λ (y : Slots). slot_of y c.args.slot_id) c.self.view_is))
    (c.has_entry.ensures acc (is_among s c.args.slot_id c.index.result.now c.content-content.result a))
