use Rattle.std.proofs.Common.{◌≡◌, IfSome, false, slice_set, sym, ap, subst, ◌∙◌}
use Rattle.gq_ram.specs.Account_table.{has_members}
use Rattle.gq_ram.specs.Account_tree.{number}
use Rattle.gq_trade.specs.Trading.{account_no, account_of, node_of, with_ledger}
use Rattle.gq_trade.specs.declared.trade_node.Stage.TheVariants.{Ended}
use Rattle.gq_trade.specs.Leaf_ends.{CanStart, HasNoSessions, follower, with_stage}
use Rattle.gq_trade.specs.Trades.{Trades, IsLive}
use Rattle.gq_trade.proofs.Trades_view_fields.{here}
use Rattle.gq_trade.proofs.Quotas_after_trades.{follower_now, left_now}
use Rattle.gq_trade.proofs.Leaf_end_start.{no_members}
use Rattle.gq_trade.proofs.Sessions_kept.{item as number_at}
use Rattle.gq_trade.proofs.trades.Trades.leave.Goals as goal

pub close-requires-clause-alone : goal.close-requires-clause-alone
close-requires-clause-alone c =
    let w : Trades = here c.self.inside in
    let v : w ≡ c.args.self.now = c.self.view_is in
    let x = c.args.leaf in
    let live : IsLive w x = subst (λ (a : Trades). IsLive a x) (sym v) c.requires.leaf in
    let node : c.index-node.result.now ≡ node_of w.trading x = number_at w.trading.leaves x c.index-node.result.now 0 live.there c.index-node.ensures in
    let e : c.account-account.result.0 ≡ account_of w.trading x = c.account-account.ensures ∙ ap (number w.trading.tree) node in
    let a : account_no w.trading x ≡ c.account-account.result = λ t. record { 0 = sym e t } in
    subst (λ y. has_members w.trading.ledger.accounts y ≡ false) a
    (no_members w.trading.ledger.accounts (account_no w.trading x) (λ k. c.self.invariant.trades.settled.alone x k live.there))

pub invariant_of-self : goal.invariant_of-self
invariant_of-self c =
    let w : Trades = here c.self.inside in
    let v : w ≡ c.args.self.now = c.self.view_is in
    let x = c.args.leaf in
    let live : IsLive w x = subst (λ (a : Trades). IsLive a x) (sym v) c.requires.leaf in
    let i = c.index-node.result.now in
    left_now w c.self.invariant c.laws.ensures x live
    (subst (λ (a : Trades). HasNoSessions a.trading x) (sym v) c.requires.alone) c.close.new.accounts c.account-account.result
    i c.index-old.result.now (number_at w.trading.leaves x i 0 live.there c.index-node.ensures) c.account-account.ensures
    c.close.ensures c.index-old.ensures

pub returns-clause-follower : goal.returns-clause-follower
returns-clause-follower c =
    let w : Trades = here c.self.inside in
    let v : w ≡ c.args.self.now = c.self.view_is in
    let x = c.args.leaf in
    let live : IsLive w x = subst (λ (a : Trades). IsLive a x) (sym v) c.requires.leaf in
    let i = c.index-node.result.now in let old = c.index-old.result.now in
    let ns = slice_set w.nodes i (with_stage old Ended) in
    let r = c.close.new.accounts in
    subst (λ (a : Trades). IfSome (follower (node_of a.trading x) ns) (λ j. CanStart (record { trading = with_ledger w.trading r; nodes = ns }) j))
    v (follower_now w c.self.invariant c.laws.ensures x live
    (subst (λ (a : Trades). HasNoSessions a.trading x) (sym v) c.requires.alone) c.close.new.accounts c.account-account.result
    i old (number_at w.trading.leaves x i 0 live.there c.index-node.ensures) c.account-account.ensures c.close.ensures c.index-old.ensures)
