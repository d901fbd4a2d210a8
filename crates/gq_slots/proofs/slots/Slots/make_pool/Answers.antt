use Rattle.std.proofs.Common.{replicate, None, sym}
use Rattle.gq_slots.proofs.Content_price_facts.{pool_none}
use Rattle.gq_model.specs.machine.World as world
use Rattle.gq_contents.specs.declared.content.Content.TheVariants as content
use Rattle.gq_slots.specs.Slots.{Slots}
use Rattle.gq_slots.proofs.Slot_call_effects.{at_inside, makes_beside}
use Rattle.gq_slots.proofs.Slots_view_fields.{slots_of}
use Rattle.gq_slots.proofs.slots.Slots.make_pool.Goals as goal

pub invariant_of-self-2 : goal.invariant_of-self-2
invariant_of-self-2 c =
    let s : Slots = slots_of c.self.inside in
    let a = at_inside c.args.self.now s c.args.slot_id c.index-heap.result.now content.Empty c.holder-holder.result c.self.view_is c.self.invariant
    c.requires.can.there c.holder-holder.ensures.is c.holder-holder.ensures.there (sym c.requires.can.empty) c.index-heap.ensures
    c.leaf_account-account.ensures in
    let e = c.in_ok-made.ensures in
    (makes_beside c.args.self.now s c.make_pool.new.store c.fill.new.trades c.fill.new.own.items c.args.slot_id c.index-heap.result.now content.Empty
    c.in_ok-made.made (world.Pool c.args.size (replicate c.args.count None)) c.self.view_is a c.laws.ensures.trading c.requires.can.slot
    c.make_pool.ensures.rest (e.made.changes c.index-heap.result.now) e.made.reads (e.made.pays c.index-heap.result.now)
    (λ k. pool_none k c.args.size c.args.count) c.fill.ensures.trades
    c.fill.ensures.own).0

pub returns-clause-made : goal.returns-clause-made
returns-clause-made c =
    let s : Slots = slots_of c.self.inside in
    let a = at_inside c.args.self.now s c.args.slot_id c.index-heap.result.now content.Empty c.holder-holder.result c.self.view_is c.self.invariant
    c.requires.can.there c.holder-holder.ensures.is c.holder-holder.ensures.there (sym c.requires.can.empty) c.index-heap.ensures
    c.leaf_account-account.ensures in
    let e = c.in_ok-made.ensures in
    (makes_beside c.args.self.now s c.make_pool.new.store c.fill.new.trades c.fill.new.own.items c.args.slot_id c.index-heap.result.now content.Empty
    c.in_ok-made.made (world.Pool c.args.size (replicate c.args.count None)) c.self.view_is a c.laws.ensures.trading c.requires.can.slot
    c.make_pool.ensures.rest (e.made.changes c.index-heap.result.now) e.made.reads (e.made.pays c.index-heap.result.now)
    (λ k. pool_none k c.args.size c.args.count) c.fill.ensures.trades
    c.fill.ensures.own).1
