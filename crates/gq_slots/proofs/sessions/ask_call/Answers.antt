use Rattle.std.proofs.Common.{sym, subst}
use Rattle.gq_trade.specs.declared.requests.Ask.TheVariants as ask
use Rattle.gq_slots.specs.Slots.{Slots}
use Rattle.gq_slots.specs.internal.Slots_invariant.{IsSlots}
use Rattle.gq_slots.proofs.Slot_call_effects.{of_parts}
use Rattle.gq_slots.proofs.Requested_session_world.{asked_kept, asked_world}
use Rattle.gq_slots.proofs.Slots_view_fields.{slots_of}
use Rattle.gq_slots.proofs.sessions.ask_call.Goals as goal

pub invariant_of-slots : goal.invariant_of-slots
invariant_of-slots c =
    let s : Slots = slots_of c.slots.inside in
    subst (λ y. IsSlots (of_parts y s.own s.heaps)) (sym c.ask_call.ensures) (asked_kept s c.args.session (ask.Call c.args.value) (λ t. tt) c.slots.invariant)

pub returns-clause-world : goal.returns-clause-world
returns-clause-world c f =
    let s : Slots = slots_of c.slots.inside in
    asked_world f c.args.slots.now s c.ask_call.new.self c.args.session (ask.Call c.args.value) c.slots.view_is c.ask_call.ensures
