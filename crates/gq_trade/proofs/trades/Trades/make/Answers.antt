use Rattle.std.proofs.Common.{◌≡◌, ◌<◌, IfOk, length, get_or, sym, ap, subst, ◌∙◌}
use Rattle.gq_trade.specs.Trading.{Makes, account_no, with_ledger}
use Rattle.gq_trade.specs.Trades.{Trades}
use Rattle.gq_trade.proofs.Trades_view_fields.{here}
use Rattle.gq_trade.proofs.Quotas_after_trades.{rest_holds}
use Rattle.gq_trade.proofs.Sessions_kept.{item, makes_of}
use Rattle.gq_trade.proofs.trades.Trades.make.Goals as goal

pub invariant_of-self : goal.invariant_of-self
invariant_of-self c = rest_holds (here c.self.inside) c.self.invariant c.make_slice.new.store c.account_of-account.result.0 c.make_slice.ensures.rest

pub returns-clause-ok : goal.returns-clause-ok
returns-clause-ok c =
    let w : Trades = here c.self.inside in
    let v : w ≡ c.args.self.now = c.self.view_is in
    let x = c.args.leaf in
    let sl : c.args.service < length w.trading.objects = subst (λ (a : Trades). c.args.service < length a.trading.objects) (sym v) c.requires.service in
    let m = c.make_slice.new.store in
    let e = c.make_slice.ensures in
    let a : c.account_of-account.result ≡ account_no w.trading x =
    c.account_of-account.ensures.is ∙ ap (λ (t : Trades). account_no t.trading x) (sym v) in
    subst (λ (y : Trades). IfOk c.make_slice.result (λ t. Makes y.trading (with_ledger w.trading m) x (get_or y.trading.objects c.args.service 0) t)) v
    (makes_of c.make_slice.result w.trading m x (get_or w.trading.objects c.args.service 0) c.index-size.result.now c.account_of-account.result a
    (item w.trading.objects c.args.service c.index-size.result.now 0 sl c.index-size.ensures) e.made e.rest)
