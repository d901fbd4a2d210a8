-- What a request starts.
use Rattle.std.specs.Prelude.{ℕ, suc, ◌+◌, nat_le, ◌&&◌, not, Bool, true, Option, Some, None, nat_eq}
use Rattle.gq_tariff.specs.Prices.{up}
use Rattle.gq_trade.specs.declared.requests.Ask.{Ask}
use Rattle.gq_trade.specs.declared.requests.Ask.TheVariants.{Open, Upgrade, Close, Call}
use Rattle.gq_store.specs.Store.{Store}

-- it is none, or more than 0
abbrev pub has_some : Option ℕ → Bool
has_some None = true
has_some (Some n) = not (nat_eq n 0)

-- who has this memory can pay for what a request makes: for one to open, an object of n bytes
abbrev pub can_pay : Ask → ℕ → Store → Bool
can_pay Open n st = nat_le (up (n + 32)) st.left && has_some st.caps
can_pay Upgrade n st = true
can_pay Close n st = true
can_pay (Call a) n st = true
