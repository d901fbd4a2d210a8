use Rattle.gq_slots.specs.Slots.{Slots, world_seen}
use Rattle.gq_statements.proofs.Byte_access_statements.{load_none}
use Rattle.gq_statements.proofs.actor.Actor.load.Goals as goal

pub returns-in_default : goal.returns-in_default
returns-in_default c =
    let s : Slots = c.args.slots.now in
    record {
      step = λ f d rest h b we e. load_none d c.args.width c.args.place s (world_seen f s) c.args.index rest we e (c.in_default.ensures.found f d h b);
    }
