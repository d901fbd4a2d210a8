-- What the laws of slots, of their accounts and of their memory say together.
use Rattle.std.proofs.Common.{◌≡◌, length, ap, ◌∙◌, subst}
use Rattle.std.specs.Prelude.{Result, Ok, Err, OnOk, OnErr}
use Rattle.gq_ram.specs.Ledgers.{IsBalanced, Ledger}
use Rattle.gq_trade.specs.Trading.{IsTrading}
use Rattle.gq_trade.specs.Trades.{IsTrades, Trades}
use Rattle.gq_slots.specs.Slots.{ArePaidFor, AreRead, AreRises, AreSmallEntries, Slots}
use Rattle.gq_statements.specs.Systems.{AreLawful}

pub lawful : (s : Slots) (w v : Trades) (b : Ledger) → IsTrades s.trades → length s.own ≡ length s.trades.trading.leaves → ArePaidFor s
    → AreRead s → AreRises s → AreSmallEntries s → IsTrading w.trading → w ≡ s.trades → IsBalanced b → b ≡ v.trading.ledger → v ≡ s.trades
    → AreLawful s
lawful s w v b trades count held read rises entries trading we balanced be ve = record {
  trades = trades;
  trading = subst (λ (y : Trades). IsTrading y.trading) we trading;
  balanced = subst IsBalanced (be ∙ ap (λ (y : Trades). y.trading.ledger) ve) balanced;
  count = count;
  held = held;
  read = read;
  rises = rises;
  entries = entries;
}

-- what an outcome says
pub from_ok : {A E : Type 0} (P : Type 0) (r : Result A E) (a : A) → r ≡ Ok a → OnOk r P → P
from_ok P r a e h = subst (λ y. OnOk y P) e h

pub from_err : {A E : Type 0} (P : Type 0) (r : Result A E) (x : E) → r ≡ Err x → OnErr r P → P
from_err P r x e h = subst (λ y. OnErr y P) e h
