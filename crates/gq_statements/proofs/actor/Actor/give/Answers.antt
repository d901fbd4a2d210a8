use Rattle.gq_slots.specs.Slots.{Slots, world_seen}
use Rattle.gq_statements.proofs.Named_pool_entries.{give_none, give_past, give_some}
use Rattle.gq_statements.proofs.actor.Actor.give.Goals as goal

pub returns-in_default-clause-step : goal.returns-in_default-clause-step
returns-in_default-clause-step c f d rest h we =
    let s : Slots = c.args.slots.now in
    give_none d c.args.place s c.args.index rest (world_seen (f 1) s) (we 1) (c.in_default.ensures.found (f 1) d h)

pub returns-then-index-count-clause-step : goal.returns-then-index-count-clause-step
returns-then-index-count-clause-step c f d rest h we =
    let s : Slots = c.args.slots.now in
    give_past d c.args.place s c.in-Some.slot_id c.in-Some._size c.in-Some.count c.in-Some.ensures.is.count c.args.index rest f we
    (c.in-Some.ensures.found (f 1) d h) c.if-index-count.true

pub returns-clause-step : goal.returns-clause-step
returns-clause-step c f d rest h we =
    let s : Slots = c.args.slots.now in
    give_some d c.args.place s c.in-Some.slot_id c.in-Some._size c.in-Some.count c.in-Some.ensures.is.count c.args.index rest f we
    (c.in-Some.ensures.found (f 1) d h) c.give.new.self c.give.result c.if-index-count.false c.in-Some.ensures.is.reads c.in-Some.ensures.is.slot
    c.give.ensures.given c.give.ensures.absent
