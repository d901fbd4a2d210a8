-- What stays of all else along several calls of the store.
use Rattle.std.proofs.Common.{ℕ, refl, ap, ◌∙◌}
use Rattle.gq_ram.specs.internal.Kept_rest.{rest_refl as ledger_refl, rest_trans as ledger_trans}
use Rattle.gq_trade.specs.Trading.{Trading, with_ledger}
use Rattle.gq_trade.specs.Trades.{Trades, SameButMemory}

pub rest_refl : (a : ℕ) (w : Trades) → SameButMemory a w w
rest_refl a w = record { trading = record { is = refl; rest = ledger_refl a w.trading.ledger }; nodes = refl }

pub rest_trans : (a : ℕ) (u v w : Trades) → SameButMemory a u v → SameButMemory a v w → SameButMemory a u w
rest_trans a u v w p q = record {
  trading = record {
    is = q.trading.is ∙ ap (λ (x : Trading). with_ledger x w.trading.ledger) p.trading.is;
    rest = ledger_trans a u.trading.ledger v.trading.ledger w.trading.ledger p.trading.rest q.trading.rest;
  };
  nodes = q.nodes ∙ p.nodes;
}
