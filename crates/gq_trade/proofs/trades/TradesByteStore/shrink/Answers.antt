use Rattle.gq_trade.proofs.Trades_view_fields.{here}
use Rattle.gq_trade.proofs.Quotas_after_trades.{rest_holds}
use Rattle.gq_trade.proofs.trades.TradesByteStore.shrink.Goals as goal

pub invariant_of-self : goal.invariant_of-self
invariant_of-self c = rest_holds (here c.self.inside) c.self.invariant c.shrink.new.self c.args.account.0 c.shrink.ensures.rest
