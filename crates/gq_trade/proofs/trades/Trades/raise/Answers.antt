use Rattle.std.proofs.Common.{◌≡◌, ◌<◌, refl, sym, ap, subst, arith}
use Rattle.gq_trade.specs.Trading.{found, raised, session_at}
use Rattle.gq_trade.specs.Trades.{Trades}
use Rattle.gq_trade.proofs.Trades_view_fields.{here}
use Rattle.gq_trade.proofs.Quotas_after_trades.{session_holds}
use Rattle.gq_trade.proofs.trades.Trades.raise.Goals as goal

pub invariant_of-self : goal.invariant_of-self
invariant_of-self c =
    let w : Trades = here c.self.inside in
    let v : w ≡ c.args.self.now = c.self.view_is in
    let k = c.args.session in
    let old = c.at_mut-raised.result.now in
    let low : (session_at w.trading k).level < 3 = subst (λ (a : Trades). (session_at a.trading k).level < 3) (sym v) c.requires.level in
    let same = ap (λ o. (found o).level) c.at_mut-raised.ensures.value in
    session_holds w c.self.invariant k old (raised old) c.at_mut-raised.ensures.value
    refl refl refl refl (omega arith) (λ l. omega (arith, low, same))
