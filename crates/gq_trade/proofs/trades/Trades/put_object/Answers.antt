use Rattle.std.proofs.Common.{refl, arith}
use Rattle.gq_trade.specs.Trading.{opened}
use Rattle.gq_trade.proofs.Trades_view_fields.{here}
use Rattle.gq_trade.proofs.Quotas_after_trades.{session_holds}
use Rattle.gq_trade.proofs.trades.Trades.put_object.Goals as goal

pub invariant_of-self : goal.invariant_of-self
invariant_of-self c =
    let old = c.at_mut-accepted.result.now in
    session_holds (here c.self.inside) c.self.invariant c.args.session old (opened old c.args.object) c.at_mut-accepted.ensures.value
    refl refl refl refl (omega arith) (λ l. l)
