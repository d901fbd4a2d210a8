use Rattle.std.proofs.Common.{[], get_or, sym, ap, subst, ◌∙◌}
use Rattle.gq_model.specs.machine.Requests.{new_session}
use Rattle.gq_ram.specs.Ledgers.{IsBalanced}
use Rattle.gq_trade.specs.Seen_sessions.{slot_id_seen}
use Rattle.gq_trade.specs.Trading.{asked, fresh}
use Rattle.gq_trade.specs.Trades.{IsLive}
use Rattle.gq_slots.specs.Slots.{Slots, world_seen}
use Rattle.gq_slots.specs.Session_calls.{opening}
use Rattle.gq_slots.proofs.Slot_call_effects.{of_parts}
use Rattle.gq_slots.proofs.Requested_session_world.{kept_or_not, live_open, on_ok, opened_kept, opened_world}
use Rattle.gq_slots.proofs.Slots_view_fields.{slots_of}
use Rattle.gq_slots.proofs.sessions.ask.Goals as goal

pub invariant_of-slots : goal.invariant_of-slots
invariant_of-slots c =
    let s : Slots = slots_of c.slots.inside in
    let e = c.slots.view_is in
    let l = c.laws.ensures in
    let co = live_open s.trades c.args.client l.trades l.trading (subst (λ (y : Slots). IsLive y.trades c.args.client) (sym e) c.requires.can.client) in
    let vo = live_open s.trades c.args.server l.trades l.trading (subst (λ (y : Slots). IsLive y.trades c.args.server) (sym e) c.requires.can.server) in
    let b = subst IsBalanced c.accounts.ensures c.laws-2.ensures in
    let d = subst IsBalanced c.accounts-2.ensures c.laws-3.ensures in
    kept_or_not c.ask-asked.result s c.ask-asked.new.self
    (asked s.trades.trading (fresh c.args.client c.args.slot_id c.args.server c.args.service c.args.donation)) c.ask-asked.ensures.asked
    c.ask-asked.ensures.unchanged c.slots.invariant
    (λ ok. opened_kept s c.args.client c.args.slot_id c.args.server c.args.service c.args.donation l.trading.requests c.slots.invariant co vo b
    (subst (λ y. IsBalanced y.trading.ledger) ok d))

pub returns-clause-world : goal.returns-clause-world
returns-clause-world c =
    let s : Slots = slots_of c.slots.inside in
    let a = c.args in
    on_ok c.ask-asked.result (λ ok f.
    ap (λ y. world_seen f (of_parts y s.own s.heaps)) ok ∙ opened_world f s a.client a.slot_id a.server a.service a.donation
    ∙ ap (λ y. opening (world_seen f y) (new_session a.client (slot_id_seen a.slot_id) a.server (get_or f.names a.service []) a.donation)) c.slots.view_is)
    c.ask-asked.ensures.asked
