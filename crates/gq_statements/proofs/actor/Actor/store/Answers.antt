use Rattle.gq_slots.specs.Slots.{Slots, world_seen}
use Rattle.gq_statements.proofs.Byte_access_statements.{store_none}
use Rattle.gq_statements.proofs.actor.Actor.store.Goals as goal

pub returns-in_default-clause-step : goal.returns-in_default-clause-step
returns-in_default-clause-step c f d rest h b we e =
    let s : Slots = c.args.slots.now in
    store_none d c.args.width c.args.place s (world_seen f s) c.args.value c.args.index rest we e (c.in_default.ensures.found f d h b)
