-- The account of a live leaf is open.
use Rattle.std.proofs.Common.{◌≡◌, ℕ, sym, ◌∙◌, subst}
use Rattle.gq_ram.specs.Account_table.{IsOpen}
use Rattle.gq_ram.specs.Ledgers.{Ledger}
use Rattle.gq_store.specs.declared.AccountNo.{AccountNo}
use Rattle.gq_trade.specs.declared.trade_node.Stage.TheVariants.{Live, Ended}
use Rattle.gq_trade.specs.Balances.{node_at}
use Rattle.gq_trade.specs.Trading.{IsTrading, account_no, node_of}
use Rattle.gq_trade.specs.Trades.{IsLive, IsTrades, Trades}

pub live_open : (t : Trades) (x : ℕ) (l : Ledger) (a : AccountNo) → IsTrades t → IsTrading t.trading → IsLive t x → l ≡ t.trading.ledger
    → a ≡ account_no t.trading x → IsOpen l.accounts a.0
live_open t x l a trades trading live same is =
    let ne : (node_at t.nodes (node_of t.trading x)).stage ≡ Ended → ⊥ = λ e. let never : Live ≡ Ended = sym live.live ∙ e in cc in
    let its_open = trades.settled.opened (node_of t.trading x) (trading.leaves x live.there) ne in
    subst (λ (m : Ledger). IsOpen m.accounts a.0) (sym same) (subst (λ (b : AccountNo). IsOpen t.trading.ledger.accounts b.0) (sym is) its_open)
