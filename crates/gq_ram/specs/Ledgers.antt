-- What a contract sees of an `Accounts`, and what holds in each.
use Rattle.std.specs.Prelude.{◌≡◌, ℕ, ◌+◌, ◌*◌, ◌/◌, ◌≤◌, List, [], ◌∷◌, Option, Some, None, replicate, length, get_or, slice_set, is_some, IfSome}
use Rattle.gq_tariff.specs.Prices.{up}
use Rattle.gq_pages.specs.Frame_bytes.{zeros}
use Rattle.gq_pages.specs.Frame_map.{has_bytes, all_free}
use Rattle.gq_dataspace.specs.Dataspaces.{Dataspaces, IsVacant, content_of}
use Rattle.gq_dataspace.specs.declared.spaces.DsId.{DsId}
use Rattle.gq_store.specs.declared.AccountNo.{AccountNo}
use Rattle.gq_ram.specs.Account_table.{Entries, no_amount, account_at, charged, left_to, sum_over, IsOpen}
use Rattle.gq_ram.specs.Owning.{IsOf, Owners, owned}

pub record Ledger : Type 0 where
  pub accounts : Entries
  pub spaces : Dataspaces
  pub owners : Owners
  -- the capabilities that a dataspace costs: 1, or 0 where capabilities are not counted
  pub price : ℕ
  pub total : ℕ
  pub total_caps : ℕ

abbrev pub with_accounts : Ledger → Entries → Ledger
with_accounts l es = record { accounts = es; spaces = l.spaces; owners = l.owners; price = l.price; total = l.total; total_caps = l.total_caps }

abbrev pub with_spaces : Ledger → Dataspaces → Ledger
with_spaces l ss = record { accounts = l.accounts; spaces = ss; owners = l.owners; price = l.price; total = l.total; total_caps = l.total_caps }

-- the dataspace k has these bytes
abbrev pub with_content : Ledger → ℕ → List ℕ → Ledger
with_content l k bs = with_spaces l (record { spaces = slice_set l.spaces.spaces k (Some bs); free = l.spaces.free })

-- whether capabilities are counted
abbrev pub price_where : Option ℕ → ℕ
price_where None = 0
price_where (Some n) = 1

abbrev pub caps_where : Option ℕ → ℕ
caps_where None = 0
caps_where (Some n) = n

abbrev pub first_ledger : ℕ → Option ℕ → Ledger
first_ledger total caps = record {
  accounts = Some (record { quota = record { ram = total; caps = caps_where caps }; used = no_amount; reference = None }) ∷ [];
  spaces = record { spaces = all_free (total / 4096); free = total / 4096 };
  owners = replicate (total / 4096) None;
  price = price_where caps;
  total = total;
  total_caps = caps_where caps;
}

-- the price and the totals are the same
abbrev pub IsSameWhole : Ledger → Ledger → Type 0
IsSameWhole l m = (l.price ≡ m.price) × (l.total ≡ m.total) × (l.total_caps ≡ m.total_caps)

-- a dataspace of n bytes in whole pages is made, which reads 0 and which this account pays for
pub record MakesDataspace (old new : Ledger) (a : AccountNo) (n : ℕ) (ds : DsId) : Type 0 where
  pub paid : new.accounts ≡ charged old.accounts a.0 (up n) old.price
  pub was_vacant : IsVacant old.spaces.spaces ds.0
  pub made : new.spaces.spaces ≡ slice_set old.spaces.spaces ds.0 (Some (zeros (up n)))
  pub size : length (content_of new.spaces.spaces ds.0) ≡ up n
  pub of_it : new.owners ≡ slice_set old.owners ds.0 (Some a)

-- an account is gone with its dataspaces, and its quota goes to its reference account
pub record ClosesAccount (old new : Ledger) (a : AccountNo) : Type 0 where
  pub left : IfSome (account_at old.accounts a.0).reference (λ r. new.accounts ≡ left_to old.accounts a.0 r.0)
  pub gone : (k : ℕ) → IsOf old.owners k a → get_or new.spaces.spaces k None ≡ None
  pub others : (k : ℕ) → (IsOf old.owners k a → ⊥) → get_or new.spaces.spaces k None ≡ get_or old.spaces.spaces k None
  pub other_owners : (k : ℕ) → (IsOf old.owners k a → ⊥) → get_or new.owners k None ≡ get_or old.owners k None

-- what holds in each
pub record IsBalanced (l : Ledger) : Type 0 where
  pub quotas : sum_over (λ a. a.quota.ram) l.accounts ≡ l.total
  pub caps : sum_over (λ a. a.quota.caps) l.accounts ≡ l.total_caps
  pub pages : l.spaces.free * 4096 + sum_over (λ a. a.used.ram) l.accounts ≡ l.total
  -- what an account uses is what its dataspaces cost
  pub used : (a : ℕ) → (account_at l.accounts a).used.ram ≡ owned length a l.spaces.spaces l.owners
  pub caps_used : (a : ℕ) → (account_at l.accounts a).used.caps ≡ owned (λ _. l.price) a l.spaces.spaces l.owners
  pub within : (a : ℕ) → (account_at l.accounts a).used.ram ≤ (account_at l.accounts a).quota.ram
  pub caps_within : (a : ℕ) → (account_at l.accounts a).used.caps ≤ (account_at l.accounts a).quota.caps
  pub small : l.total ≤ 67108864
  pub small_caps : l.total_caps ≤ 65536
  pub priced : l.price ≤ 1
  -- the reference account of an account is another one, and open
  pub references : (a : ℕ) (r : AccountNo) → (account_at l.accounts a).reference ≡ Some r → IsOpen l.accounts r.0 × (r.0 ≡ a → ⊥)
  -- the account 0 is the root account
  pub root : IsOpen l.accounts 0 × ((account_at l.accounts 0).reference ≡ None)
  -- each dataspace is of an account
  pub tables : length l.owners ≡ length l.spaces.spaces
  pub few : length l.owners ≤ 16384
  pub live : (k : ℕ) → is_some (get_or l.owners k None) ≡ has_bytes (get_or l.spaces.spaces k None)
