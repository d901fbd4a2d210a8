use Rattle.std.proofs.Common.{◌≡◌, IfSome, subst}
use Rattle.gq_trade.specs.Numbers.{IsTaken}
use Rattle.gq_trade.specs.Trading.{server_of}
use Rattle.gq_trade.specs.Trades.{Trades}
use Rattle.gq_trade.proofs.Trades_view_fields.{here}
use Rattle.gq_trade.proofs.Sessions_kept.{its_oldest}
use Rattle.gq_trade.proofs.trades.Trades.waiting.Goals as goal

pub returns-clause-its : goal.returns-clause-its
returns-clause-its c =
    let w : Trades = here c.self.inside in
    let v : w ≡ c.args.self.now = c.self.view_is in
    subst (λ (x : Trades). IfSome c.oldest.result (λ r. IsTaken x.trading.sessions r.session × (server_of x.trading r.session ≡ c.args.server))) v
    (its_oldest w.trading.sessions c.args.server w.trading.requests c.oldest.result c.self.invariant.trading.requests c.oldest.ensures.some)
