-- The clients whose requests wait.
use Rattle.std.specs.Prelude.{◌≡◌, ℕ, ◌+◌, ◌*◌, ◌≤◌, List, [], ◌∷◌, Option}
use Rattle.gq_trade.specs.declared.requests.Ask.{Ask}
use Rattle.gq_trade.specs.declared.requests.Ask.TheVariants.{Open, Upgrade, Close, Call}
use Rattle.gq_trade.specs.declared.requests.Request.{Request}
use Rattle.gq_trade.specs.declared.session.Session.{Session}
use Rattle.gq_trade.specs.Trading.{Trading, session_in}
use Rattle.gq_trade.specs.Balances.{for_node}

-- none of these is x
abbrev pub AreOther : ℕ → List ℕ → Type 0
AreOther x [] = Unit {0}
AreOther x (y ∷ ys) = (y ≡ x → ⊥) × AreOther x ys

-- no two of these are the same
abbrev pub AreApart : List ℕ → Type 0
AreApart [] = Unit {0}
AreApart (y ∷ ys) = AreOther y ys × AreApart ys

-- the clients of these requests
abbrev pub clients_in : List (Option Session) → List Request → List ℕ
clients_in ss [] = []
clients_in ss (r ∷ rs) = (session_in ss r.session).client ∷ clients_in ss rs

abbrev pub clients : Trading → List ℕ
clients w = clients_in w.sessions w.requests

-- no request of the leaf x waits
abbrev pub IsIdle : Trading → ℕ → Type 0
IsIdle w x = AreOther x (clients w)

abbrev pub is_upgrade : Ask → ℕ
is_upgrade Open = 0
is_upgrade Upgrade = 1
is_upgrade Close = 0
is_upgrade (Call n) = 0

-- how many of these requests are to upgrade the session k
abbrev pub upgrades : ℕ → List Request → ℕ
upgrades k [] = 0
upgrades k (r ∷ rs) = for_node r.session k (is_upgrade r.ask) + upgrades k rs

-- What was given for a session, with n upgrades that wait, is at most all there is, for each time.
pub record IsBounded (s : Session) (n : ℕ) : Type 0 where
  pub level : s.level ≤ 3
  pub ram : s.donation.ram ≤ 67108864 * (1 + s.level + n)
  pub caps : s.donation.caps ≤ 67108864 * (1 + s.level + n)
