use Rattle.std.proofs.Common.{refl, subst}
use Rattle.gq_model.specs.machine.Memory.{entry_with}
use Rattle.gq_contents.specs.Contents.{with_entry}
use Rattle.gq_slots.specs.Slots.{Slots, slot_of, world_seen}
use Rattle.gq_slots.specs.Calls.{PutsSlot}
use Rattle.gq_statements.proofs.Named_pool_entries.{low_byte, poke_none, poke_past, poke_short, poke_some, test_false, test_true}
use Rattle.gq_statements.proofs.actor.Actor.poke.Goals as goal

pub returns-in_default-clause-step : goal.returns-in_default-clause-step
returns-in_default-clause-step c f d rest h we e =
    poke_none d c.args.place c.args.slots.now (world_seen f c.args.slots.now) (c.in_default.ensures.found f d h) c.args.value c.args.offset c.args.index
    rest we e

pub returns-then-index-count-clause-step : goal.returns-then-index-count-clause-step
returns-then-index-count-clause-step c f d rest h we e =
    poke_past d c.args.place c.args.slots.now c.in-Some.slot_id c.in-Some.size c.in-Some.count c.in-Some.ensures.is.count (world_seen f c.args.slots.now)
    (c.in-Some.ensures.found f d h) c.args.value c.args.offset c.args.index rest we e c.if-index-count.true

pub returns-then-offset-size-clause-step : goal.returns-then-offset-size-clause-step
returns-then-offset-size-clause-step c f d rest h we e =
    poke_short d c.args.place c.args.slots.now c.in-Some.slot_id c.in-Some.size c.in-Some.count c.in-Some.ensures.is.count (world_seen f c.args.slots.now)
    (c.in-Some.ensures.found f d h) c.args.value c.args.offset c.args.index rest we e c.if-index-count.false
    (test_false c.args.offset c.in-Some.size c.if-offset-size.true)

pub returns-clause-step : goal.returns-clause-step
returns-clause-step c f d rest h we e =
    let s : Slots = c.args.slots.now in
    let p = c.in-Some.slot_id in
    let puts : PutsSlot s c.poke.new.self p (with_entry c.args.index (λ n. entry_with c.args.offset c.args.value) (slot_of s p)) =
    subst (PutsSlot s c.poke.new.self p) (low_byte c.args.value c.args.offset c.args.index (slot_of s p)) c.poke.ensures in
    poke_some d c.args.place s p c.in-Some.size c.in-Some.count c.in-Some.ensures.is.count (world_seen f s)
    (c.in-Some.ensures.found f d h) c.args.value c.args.offset c.args.index rest we e f c.poke.new.self c.if-index-count.false
    (test_true c.args.offset c.in-Some.size c.if-offset-size.false) refl c.in-Some.ensures.is.slot puts
