use Rattle.std.proofs.Common.{◌≡◌, sym, ap, subst}
use Rattle.gq_trade.specs.Numbers.{IsTaken}
use Rattle.gq_trade.specs.declared.session.Session.{Session}
use Rattle.gq_trade.specs.Trading.{found}
use Rattle.gq_trade.specs.Trades.{Trades, AreParties}
use Rattle.gq_trade.proofs.Trades_view_fields.{here}
use Rattle.gq_trade.proofs.Quotas_after_trades.{parties_at}
use Rattle.gq_trade.proofs.trades.Trades.between.Goals as goal

pub returns-clause-parties : goal.returns-clause-parties
returns-clause-parties c =
    let w : Trades = here c.self.inside in
    let v : w ≡ c.args.self.now = c.self.view_is in
    let k = c.args.session in
    let t : IsTaken w.trading.sessions k = subst (λ (x : Trades). IsTaken x.trading.sessions k) (sym v) c.requires in
    subst (λ (x : Trades). AreParties x c.get.result) v
    (subst (λ (s : Session). AreParties w s) (ap found c.get.ensures) (parties_at w c.self.invariant k t))
