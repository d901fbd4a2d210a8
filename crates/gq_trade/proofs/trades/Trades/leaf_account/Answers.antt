use Rattle.std.proofs.Common.{◌≡◌, ◌<◌, length, sym, ap, subst, ◌∙◌}
use Rattle.gq_ram.specs.Account_tree.{number}
use Rattle.gq_trade.specs.Trading.{account_of, node_of}
use Rattle.gq_trade.specs.Trades.{Trades}
use Rattle.gq_trade.proofs.Trades_view_fields.{here}
use Rattle.gq_trade.proofs.Sessions_kept.{item}
use Rattle.gq_trade.proofs.trades.Trades.leaf_account.Goals as goal

pub account-requires : goal.account-requires
account-requires c =
    let w : Trades = here c.self.inside in
    let v : w ≡ c.args.self.now = c.self.view_is in
    let x = c.args.leaf in
    let lt : x < length w.trading.leaves = subst (λ (a : Trades). x < length a.trading.leaves) (sym v) c.requires in
    rw (item w.trading.leaves x c.index.result.now 0 lt c.index.ensures) (c.self.invariant.trading.leaves x lt)

pub returns : goal.returns
returns c =
    let w : Trades = here c.self.inside in
    let v : w ≡ c.args.self.now = c.self.view_is in
    let x = c.args.leaf in
    let lt : x < length w.trading.leaves = subst (λ (a : Trades). x < length a.trading.leaves) (sym v) c.requires in
    let node : c.index.result.now ≡ node_of w.trading x = item w.trading.leaves x c.index.result.now 0 lt c.index.ensures in
    let e = c.account.ensures ∙ ap (number w.trading.tree) node ∙ ap (λ (a : Trades). account_of a.trading x) v in
    λ t. record { 0 = e t }
