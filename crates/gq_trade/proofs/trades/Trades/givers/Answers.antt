use Rattle.std.proofs.Common.{◌≡◌, sym, subst}
use Rattle.gq_ram.specs.Giving.{CanGive}
use Rattle.gq_trade.specs.Trading.{node_of}
use Rattle.gq_trade.specs.Trades.{Trades, IsLive}
use Rattle.gq_trade.proofs.Trades_view_fields.{here}
use Rattle.gq_trade.proofs.Quotas_after_trades.{can_give}
use Rattle.gq_trade.proofs.Sessions_kept.{item}
use Rattle.gq_trade.proofs.trades.Trades.givers.Goals as goal

pub returns-clause-can : goal.returns-clause-can
returns-clause-can c =
    let w : Trades = here c.self.inside in
    let v : w ≡ c.args.self.now = c.self.view_is in
    let x = c.args.from in let y = c.args.to in
    let i = c.index.result.now in let j = c.index-2.result.now in
    let xl : IsLive w x = subst (λ (a : Trades). IsLive a x) (sym v) c.requires.from in
    let yl : IsLive w y = subst (λ (a : Trades). IsLive a y) (sym v) c.requires.to in
    let tree = w.trading.tree in let es = w.trading.ledger.accounts in
    subst (λ (a : Trades). CanGive a.trading.tree a.trading.ledger.accounts i j) v
    (subst (λ n. CanGive tree es n j) (sym (item w.trading.leaves x i 0 xl.there c.index.ensures))
    (subst (λ n. CanGive tree es (node_of w.trading x) n) (sym (item w.trading.leaves y j 0 yl.there c.index-2.ensures))
    (can_give w c.self.invariant x y xl yl c.requires.apart)))
