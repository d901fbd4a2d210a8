use Rattle.std.proofs.Common.{◌≡◌, ◌<◌, IfSome, sym, ap, subst, ◌∙◌}
use Rattle.gq_trade.specs.declared.requests.Ask.TheVariants.{Upgrade}
use Rattle.gq_trade.specs.Trading.{Begins, session_at}
use Rattle.gq_trade.specs.Trades.{Trades}
use Rattle.gq_trade.proofs.Trades_view_fields.{here}
use Rattle.gq_trade.proofs.Quotas_after_trades.{accepted_holds}
use Rattle.gq_trade.proofs.Sessions_kept.{begins_requests, taken_is}
use Rattle.gq_trade.proofs.trades.Trades.accept.Goals as goal

pub invariant_of-self : goal.invariant_of-self
invariant_of-self c =
    let w : Trades = c.args.self.now in
    let u : Trades = here c.self.inside in
    let v : u ≡ c.begin.new.self = c.self.view_is in
    let x = c.args.server in
    let r = c.in-Some.request in
    let o = c.in-Some.ensures.some in
    let e = c.in_ok-begin.ensures in
    let begins : Begins r.ask w.trading u.trading r.session = subst (λ (a : Trades). Begins r.ask w.trading a.trading r.session) (sym v) e.ok in
    accepted_holds w (record { trading = c.laws.ensures.trading; trades = c.laws.ensures.trades }) u x r c.take_oldest.new.self c.self.invariant
    (subst (λ q. IfSome q (λ p. p.0.ask ≡ Upgrade → (session_at w.trading p.0.session).level < 3)) o.is c.requires.level) begins
    (ap (λ (a : Trades). a.nodes) v ∙ c.begin.ensures.nodes)
    (taken_is x w.trading.requests u.trading.requests c.take_oldest.new.self r c.take_oldest.result (begins_requests r.ask w.trading u.trading r.session begins)
    o c.take_oldest.ensures.some c.take_oldest.ensures.none)
