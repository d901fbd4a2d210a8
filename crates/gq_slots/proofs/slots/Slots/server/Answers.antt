use Rattle.std.proofs.Common.{length, ap, sym, subst, arith}
use Rattle.gq_trade.specs.Numbers.{IsTaken}
use Rattle.gq_trade.proofs.Sessions_kept.{between_at}
use Rattle.gq_slots.specs.Slots.{Slots}
use Rattle.gq_slots.proofs.Slots_view_fields.{slots_of}
use Rattle.gq_slots.proofs.slots.Slots.server.Goals as goal

pub returns-clause-there : goal.returns-clause-there
returns-clause-there c =
    let s : Slots = slots_of c.self.inside in
    let taken = subst (λ (y : Slots). IsTaken y.trades.trading.sessions c.args.session) (sym c.self.view_is) c.requires in
    let w = s.trades.trading in
    let b = between_at (length w.leaves) (length w.objects) w.sessions c.args.session c.laws.ensures.trading.between taken in
    omega (arith, b.server, ap (λ (y : Slots). length y.own) c.self.view_is, c.self.invariant.count, ap (λ y. y.server) c.session.ensures)
