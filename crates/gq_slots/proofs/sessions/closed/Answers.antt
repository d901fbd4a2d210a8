use Rattle.std.proofs.Common.{ap, subst, sym, ◌∙◌}
use Rattle.gq_trade.specs.Numbers.{IsTaken}
use Rattle.gq_ram.specs.Ledgers.{IsBalanced}
use Rattle.gq_trade.specs.declared.session.SlotId.TheVariants.{InObject, InSession}
use Rattle.gq_trade.specs.Trading.{AreOfOthers}
use Rattle.gq_slots.specs.Slots.{Slots, content_at}
use Rattle.gq_slots.proofs.Closed_session_world.{closed_ends, closed_kept, slice_there}
use Rattle.gq_slots.proofs.Slots_view_fields.{slots_of}
use Rattle.gq_slots.proofs.sessions.closed.Goals as goal

pub closed-closed-requires-clause-object : goal.closed-closed-requires-clause-object
closed-closed-requires-clause-object c =
    let s : Slots = slots_of c.slots.inside in
    let e = c.slots.view_is in
    let k = c.args.session in
    slice_there s k c.slots.invariant c.laws.ensures.trading (subst (λ (y : Slots). IsTaken y.trades.trading.sessions k) (sym e) c.requires.there)
    (λ z. c.requires.object (ap (λ y. content_at y (InObject k)) (sym e) ∙ z))

pub invariant_of-slots : goal.invariant_of-slots
invariant_of-slots c =
    let s : Slots = slots_of c.slots.inside in
    let e = c.slots.view_is in
    let k = c.args.session in
    let a = c.closed-closed.ensures in
    closed_kept c.closed-closed.result s c.closed-closed.new.self k c.slots.invariant c.laws.ensures.trading c.laws.ensures.trades
    (subst (λ (y : Slots). IsTaken y.trades.trading.sessions k) (sym e) c.requires.there)
    (λ j lt. ap (λ y. content_at y (InSession k j)) e ∙ c.requires.empty j lt)
    (subst (λ (y : Slots). AreOfOthers k y.trades.trading.requests) (sym e) c.requires.none_waits)
    (subst IsBalanced c.accounts.ensures c.laws-2.ensures)
    (subst IsBalanced c.accounts-2.ensures c.laws-3.ensures) a.nodes a.ok a.err

pub returns-clause-ends : goal.returns-clause-ends
returns-clause-ends c =
    let s : Slots = slots_of c.slots.inside in
    let e = c.slots.view_is in
    let k = c.args.session in
    let a = c.closed-closed.ensures in
    closed_ends c.closed-closed.result c.args.slots.now s c.closed-closed.new.self k e c.slots.invariant c.laws.ensures.trading
    (subst (λ (y : Slots). IsTaken y.trades.trading.sessions k) (sym e) c.requires.there)
    (λ j lt. ap (λ y. content_at y (InSession k j)) e ∙ c.requires.empty j lt)
    (subst (λ (y : Slots). AreOfOthers k y.trades.trading.requests) (sym e) c.requires.none_waits) a.nodes a.ok
