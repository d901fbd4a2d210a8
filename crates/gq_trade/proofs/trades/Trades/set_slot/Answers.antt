use Rattle.std.proofs.Common.{refl, arith}
use Rattle.gq_trade.specs.Trading.{with_slot}
use Rattle.gq_trade.proofs.Trades_view_fields.{here}
use Rattle.gq_trade.proofs.Quotas_after_trades.{session_holds}
use Rattle.gq_trade.proofs.trades.Trades.set_slot.Goals as goal

pub invariant_of-self : goal.invariant_of-self
invariant_of-self c =
    let old = c.at_mut-changed.result.now in
    session_holds (here c.self.inside) c.self.invariant c.args.session old (with_slot old c.args.slot c.args.contents) c.at_mut-changed.ensures.value
    refl refl refl refl (omega arith) (λ l. l)
