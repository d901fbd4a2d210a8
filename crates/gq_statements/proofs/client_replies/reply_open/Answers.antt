use Rattle.std.proofs.Common.{ap, get_or, sym, subst, ◌∙◌}
use Rattle.gq_trade.specs.Trading.{IsTrading, session_at}
use Rattle.gq_trade.specs.Trades.{Trades}
use Rattle.gq_statements.proofs.Reply_machine_world.{opened_is, opened_wrong}
use Rattle.gq_statements.proofs.client_replies.reply_open.Goals as goal

pub returns-then-not-fits-clause-opened : goal.returns-then-not-fits-clause-opened
returns-then-not-fits-clause-opened c f d q at buffers h =
    let s = c.args.slots.now in
    let k = c.args.session in
    let bs = c.args.addresses.now in
    let trading = subst (λ (w : Trades). IsTrading w.trading) c.trades.ensures c.laws.ensures.trading in
    let is = c.session-service.ensures ∙ ap (λ (w : Trades). session_at w.trading k) c.trades-2.ensures in
    let size = c.buffer-size.ensures ∙ ap (λ y. get_or bs y.service 0) is in
    opened_wrong f d s k q at h c.requires.awaited.there trading bs buffers c.buffer-size.result size c.content-first.result c.content-first.ensures.reads
    (sym c.fits.ensures ∙ c.if-not-fits.true)

pub returns-clause-opened : goal.returns-clause-opened
returns-clause-opened c f d q at buffers h =
    let s = c.args.slots.now in
    let k = c.args.session in
    let bs = c.args.addresses.now in
    let trading = subst (λ (w : Trades). IsTrading w.trading) c.trades.ensures c.laws.ensures.trading in
    let is = c.session-service.ensures ∙ ap (λ (w : Trades). session_at w.trading k) c.trades-2.ensures in
    let size = c.buffer-size.ensures ∙ ap (λ y. get_or bs y.service 0) is in
    opened_is f d s k q at h c.requires.awaited.there trading bs buffers c.buffer-size.result size c.content-first.result c.content-first.ensures.reads
    (sym c.fits.ensures ∙ c.if-not-fits.false) c.reply.new.slots (c.reply.ensures.replied f d q (λ operands. operands) at h)
