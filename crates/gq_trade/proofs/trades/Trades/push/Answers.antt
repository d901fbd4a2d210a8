use Rattle.std.proofs.Common.{◌≡◌, ◌++◌, [], ◌∷◌, sym, ap, subst, ◌∙◌, List}
use Rattle.gq_trade.specs.declared.requests.Request.{Request}
use Rattle.gq_trade.specs.Numbers.{IsTaken}
use Rattle.gq_trade.specs.internal.Trades_fields.{Holds}
use Rattle.gq_trade.specs.Trading.{client_of, found, with_ask, with_requests}
use Rattle.gq_trade.specs.Trades.{Trades, with_trading}
use Rattle.gq_trade.specs.Waiting.{IsIdle}
use Rattle.gq_trade.proofs.Trades_view_fields.{here}
use Rattle.gq_trade.proofs.Quotas_after_trades.{ask_holds, room_for_its}
use Rattle.gq_trade.proofs.trades.Trades.push.Goals as goal

pub push-requires : goal.push-requires
push-requires c =
    let w : Trades = here c.self.inside in
    let v : w ≡ c.args.self.now = c.self.view_is in
    let k = c.args.session in
    room_for_its w c.self.invariant k (subst (λ (a : Trades). IsTaken a.trading.sessions k) (sym v) c.requires.there)
    (subst (λ (a : Trades). IsIdle a.trading (client_of a.trading k)) (sym v) c.requires.idle)

pub invariant_of-self : goal.invariant_of-self
invariant_of-self c =
    let w : Trades = here c.self.inside in
    let v : w ≡ c.args.self.now = c.self.view_is in
    let k = c.args.session in
    let e : c.push.new.self ≡ (with_ask w.trading k c.args.ask).requests =
    c.push.ensures
    ∙ ap (λ o. w.trading.requests ++ record { session = k; server = (found o).server; ask = c.args.ask } ∷ []) (sym c.get-server.ensures) in
    subst (λ (rs : List Request). Holds (with_trading w (with_requests w.trading rs))) (sym e)
    (ask_holds w c.self.invariant k c.args.ask (subst (λ (a : Trades). IsTaken a.trading.sessions k) (sym v) c.requires.there)
    (subst (λ (a : Trades). IsIdle a.trading (client_of a.trading k)) (sym v) c.requires.idle))
