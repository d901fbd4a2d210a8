use Rattle.std.proofs.Common.{ap, subst, ◌∙◌, get_or}
use Rattle.std.specs.Prelude.{nat_lt}
use Rattle.gq_trade.specs.declared.session.Session.{Session}
use Rattle.gq_trade.specs.Trading.{IsTrading, session_at}
use Rattle.gq_trade.specs.Trades.{Trades}
use Rattle.gq_slots.specs.Slots.{Slots}
use Rattle.gq_statements.proofs.Freed_statement_memory.{buffer_is}
use Rattle.gq_statements.proofs.making.shares_buffer.Goals as goal

pub returns : goal.returns
returns c f system a =
    let s : Slots = c.args.slots.now in
    let w : IsTrading s.trades.trading = subst (λ (y : Trades). IsTrading y.trading) c.trades.ensures c.laws.ensures.trading in
    ap (nat_lt 0) (c.buffer.ensures ∙ ap (λ (q : Session). get_or c.args.addresses.now q.service 0)
    (c.session.ensures ∙ ap (λ (y : Trades). session_at y.trading c.args.current.session) c.trades-2.ensures))
    ∙ buffer_is f system c.args.addresses.now s c.args.current.session w c.requires a
