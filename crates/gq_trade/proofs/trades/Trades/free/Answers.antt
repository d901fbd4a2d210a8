use Rattle.std.proofs.Common.{◌≡◌, sym, ap, subst, ◌∙◌}
use Rattle.gq_trade.specs.Trading.{Frees, account_no, with_ledger}
use Rattle.gq_trade.specs.Trades.{Trades}
use Rattle.gq_trade.proofs.Trades_view_fields.{here}
use Rattle.gq_trade.proofs.Quotas_after_trades.{rest_holds}
use Rattle.gq_trade.proofs.Sessions_kept.{frees_of}
use Rattle.gq_trade.proofs.trades.Trades.free.Goals as goal

pub invariant_of-self : goal.invariant_of-self
invariant_of-self c = rest_holds (here c.self.inside) c.self.invariant c.free_slice.new.store c.account_of-account.result.0 c.free_slice.ensures.rest

pub returns-clause-frees : goal.returns-clause-frees
returns-clause-frees c =
    let w : Trades = here c.self.inside in
    let v : w ≡ c.args.self.now = c.self.view_is in
    let x = c.args.leaf in
    let m = c.free_slice.new.store in
    let e = c.free_slice.ensures in
    let a : c.account_of-account.result ≡ account_no w.trading x =
    c.account_of-account.ensures.is ∙ ap (λ (t : Trades). account_no t.trading x) (sym v) in
    subst (λ (y : Trades). Frees y.trading (with_ledger w.trading m) x c.args.slice) v
    (frees_of w.trading m x c.account_of-account.result c.args.slice a e.changes e.pays e.back e.caps e.rest)
