use Rattle.gq_slots.specs.Slots.{Slots}
use Rattle.gq_slots.proofs.Accepted_request_world.{accept_kept, accept_takes}
use Rattle.gq_slots.proofs.Slots_view_fields.{slots_of}
use Rattle.gq_slots.proofs.sessions.accept.Goals as goal

pub invariant_of-slots : goal.invariant_of-slots
invariant_of-slots c =
    let s : Slots = slots_of c.slots.inside in
    let a = c.accept.ensures in
    accept_kept c.accept.result s c.accept.new.self c.args.server c.laws.ensures.trades c.laws.ensures.trading c.slots.invariant a.nodes a.none a.some a.err

pub returns-clause-some : goal.returns-clause-some
returns-clause-some c =
    let s : Slots = slots_of c.slots.inside in
    let a = c.accept.ensures in
    accept_takes c.accept.result c.args.slots.now s c.accept.new.self c.args.server c.slots.view_is c.laws.ensures.trades c.laws.ensures.trading
    c.slots.invariant a.nodes a.some
