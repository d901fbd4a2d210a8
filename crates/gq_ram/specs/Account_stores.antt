-- What an account has in the ledger, as a store of chunks: its dataspaces, by their numbers, and what it can still pay.
use Rattle.std.specs.Prelude.{◌≡◌, ℕ, List, [], length, Option, Some, None, nat_eq, get_or, slice_index, if◌then◌else◌}
use Rattle.gq_pages.specs.Frame_map.{its_bytes}
use Rattle.gq_store.specs.Store.{Store}
use Rattle.gq_ram.specs.declared.account.Account.{Account}
use Rattle.gq_store.specs.declared.AccountNo.{AccountNo}
use Rattle.gq_ram.specs.Account_table.{account_at, available, available_caps, IsOpen}
use Rattle.gq_ram.specs.Ledgers.{Ledger, IsSameWhole}

-- the bytes of a dataspace for the account a: none where it is another's
abbrev pub bytes_for : ℕ → Option AccountNo → List ℕ → List ℕ
bytes_for a None bs = []
bytes_for a (Some o) bs = if nat_eq o.0 a then bs else []

-- the bytes of the account's dataspace k
abbrev pub content_for : Ledger → ℕ → ℕ → List ℕ
content_for l a k = bytes_for a (get_or l.owners k None) (its_bytes (get_or l.spaces.spaces k None))

-- the capabilities that an account has left, or None where they aren't counted
abbrev pub caps_left : ℕ → Account → Option ℕ
caps_left price a = if nat_eq price 0 then None else Some (available_caps a)

-- what the account a has
abbrev pub store_at : Ledger → ℕ → Store
store_at l a = record {
  byte = λ k i. slice_index (content_for l a k) i;
  size = λ k. length (content_for l a k);
  left = available (account_at l.accounts a);
  caps = caps_left l.price (account_at l.accounts a);
}

-- But for what the account a has, both are the same: each other account has the store that it had, and its balances, and the account a has its quotas.
pub record SameRest (a : ℕ) (l m : Ledger) : Type 0 where
  pub stores : (b : ℕ) → (b ≡ a → ⊥) → store_at m b ≡ store_at l b
  pub accounts : (b : ℕ) → (b ≡ a → ⊥) → get_or m.accounts b None ≡ get_or l.accounts b None
  pub quota : (account_at m.accounts a).quota ≡ (account_at l.accounts a).quota
  pub reference : (account_at m.accounts a).reference ≡ (account_at l.accounts a).reference
  pub still_open : (b : ℕ) → IsOpen l.accounts b → IsOpen m.accounts b
  pub were_open : (b : ℕ) → IsOpen m.accounts b → IsOpen l.accounts b
  pub whole : IsSameWhole m l
