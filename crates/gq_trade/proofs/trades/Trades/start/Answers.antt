use Rattle.std.proofs.Common.{◌≡◌, ◌<◌, length, slice_set, sym, ap, subst, ◌∙◌, arith}
use Rattle.gq_ram.specs.Ledgers.{Ledger}
use Rattle.gq_ram.specs.Account_tree.{donated}
use Rattle.gq_trade.specs.Trading.{handed_on, with_ledger}
use Rattle.gq_trade.specs.declared.trade_node.NodeState.{NodeState}
use Rattle.gq_trade.specs.declared.trade_node.Stage.TheVariants.{Live}
use Rattle.gq_trade.specs.internal.Trades_fields.{Holds}
use Rattle.gq_trade.specs.Balances.{no_node, node_at}
use Rattle.gq_trade.specs.Leaf_ends.{CanStart, with_stage}
use Rattle.gq_trade.specs.Trades.{Trades}
use Rattle.gq_trade.proofs.Trades_view_fields.{here}
use Rattle.gq_trade.proofs.Quotas_after_trades.{started_holds}
use Rattle.gq_trade.proofs.Leaf_end_start.{item}
use Rattle.gq_trade.proofs.trades.Trades.start.Goals as goal

pub invariant_of-self : goal.invariant_of-self
invariant_of-self c =
    let w : Trades = here c.self.inside in
    let v : w ≡ c.args.self.now = c.self.view_is in
    let i = c.args.node in
    let h = c.self.invariant in
    let can : CanStart w i = subst (λ (a : Trades). CanStart a i) (sym v) c.requires in
    let inside : i < length w.nodes = omega (arith, can.there, h.trades.settled.count) in
    let old : c.index-old.result.now ≡ node_at w.nodes i = item w.nodes i c.index-old.result.now no_node inside c.index-old.ensures in
    let e : c.give.new.accounts ≡ (handed_on w.trading i (node_at w.nodes i).quantum).ledger =
    c.give.ensures
    ∙ ap (λ j. donated w.trading.tree w.trading.ledger j i c.index-old.result.now.quantum) c.parent-init.ensures.place
    ∙ ap (λ (n : NodeState). (handed_on w.trading i n.quantum).ledger) old in
    subst (λ (n : NodeState). Holds (record { trading = with_ledger w.trading c.give.new.accounts; nodes = slice_set w.nodes i (with_stage n Live) })) (sym old)
    (subst (λ (m : Ledger). Holds (record { trading = with_ledger w.trading m; nodes = slice_set w.nodes i (with_stage (node_at w.nodes i) Live) }))
    (sym e) (started_holds w h i can))
