-- What an account that is closed leaves.
use Rattle.std.specs.Prelude.{◌≡◌, ℕ}
use Rattle.gq_store.specs.declared.AccountNo.{AccountNo}
use Rattle.gq_ram.specs.Account_stores.{content_for}
use Rattle.gq_ram.specs.Account_table.{left_to}
use Rattle.gq_ram.specs.Ledgers.{Ledger, IsSameWhole}

-- The account a is closed, and its quota goes to the account r. All others have the dataspaces that they had.
pub record IsClosed (l m : Ledger) (a r : AccountNo) : Type 0 where
  pub accounts : m.accounts ≡ left_to l.accounts a.0 r.0
  pub contents : (b : ℕ) → (b ≡ a.0 → ⊥) → (k : ℕ) → content_for m b k ≡ content_for l b k
  pub whole : IsSameWhole m l
