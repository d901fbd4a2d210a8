use Rattle.gq_trade.specs.declared.requests.Ask.TheVariants as ask
use Rattle.gq_slots.specs.Slots.{Slots}
use Rattle.gq_statements.proofs.Requested_machine_worlds.{close_none, close_some}
use Rattle.gq_statements.proofs.Asking_keeps_sessions.{its_session, paid_then, session_found, stays_ask, stays_then}
use Rattle.gq_statements.proofs.client_requests.close.Goals as goal

pub returns-in_default-clause-step : goal.returns-in_default-clause-step
returns-in_default-clause-step c before after d h o b = close_none d c.args.place (c.in_default.ensures.found before d h b.world_before)

pub returns-clause-step : goal.returns-clause-step
returns-clause-step c before after d h o b =
    let s : Slots = c.args.slots.now in
    let u : Slots = c.ask_close.new.slots in
    let t : Slots = c.mark.new.self in
    let p = c.in-Some.slot_id in
    let k = c.in-Some.session in
    let stays = stays_then s u t (stays_ask s u k ask.Close c.ask_close.ensures.asked) c.mark.ensures.rest in
    close_some d c.args.place p k (c.in-Some.ensures.found before d h b.world_before) before after s u t (its_session before s k)
    (session_found before s k c.in-Some.ensures.is.taken) c.mark.ensures (paid_then d.system after s t c.lawful.ensures c.lawful-2.ensures stays o) b
    (c.ask_close.ensures.world after)
