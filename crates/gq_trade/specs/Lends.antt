-- What numbered values end as, where one of them is handed out to be changed.
use Rattle.std.specs.Prelude.{ℕ, Some, slice_set}
use Rattle.std.specs.Borrow.{Lends, Fml, RattleType, MutBor}
use Rattle.gq_trade.specs.Numbers.{Numbers}
use Rattle.gq_trade.specs.contracts.numbered_values.Numbered.{the_row}

-- these numbers with another value at a number
abbrev pub with_value : {A : Type 0} → Numbers A → ℕ → A → Numbers A
with_value n k a = record { values = slice_set n.values k (Some a); room = n.room }

-- once r is no longer used, the number has the last value that was written through it
abbrev pub lends_value : (T : RattleType) → MutBor (Numbers T.Denot) → ℕ → MutBor T.Denot → Fml
lends_value T s k r = Lends (the_row T) T s r (with_value s.now k)
