-- For callers: open accounts, the owner of a dataspace, how long one is, and what those of other accounts keep.
use Rattle.std.proofs.Common.{◌≡◌, ℕ, ◌<◌, ◌≤◌, true, false, List, length, Option, Some, None, get_or, set, get_or-set_other, refl, sym, ap, ◌∙◌, arith}
use Rattle.std.specs.Prelude.{is_some}
use Rattle.gq_pages.specs.Frame_map.{has_bytes, its_bytes}
use Rattle.gq_dataspace.specs.Dataspaces.{Contents, content_of}
use Rattle.gq_ram.specs.declared.account.Account.{Account}
use Rattle.gq_store.specs.declared.AccountNo.{AccountNo}
use Rattle.gq_ram.specs.Owning.{Owners, IsOf}
use Rattle.gq_ram.specs.Ledgers.{Ledger, IsBalanced}
pub use Rattle.gq_ram.proofs.Account_sums.{account_within, open_there, open_put, open_other, some_there, is_same, it_true}
pub use Rattle.gq_ram.proofs.Balances_freed_spaces.{its_within, its_some}

no_owner : (o : Option AccountNo) → is_some o ≡ false → o ≡ None
no_owner None h = refl
no_owner (Some x) h = cc

its_owner : (o : Option AccountNo) → is_some o ≡ true → (a : AccountNo) × (o ≡ Some a)
its_owner None h = cc
its_owner (Some x) h = (x, refl)

some_bytes : (o : Option (List ℕ)) → 0 < length (its_bytes o) → has_bytes o ≡ true
some_bytes None h = absurd (omega (arith, h))
some_bytes (Some bs) h = refl

no_bytes : (o : Option (List ℕ)) → has_bytes o ≡ false → length (its_bytes o) ≡ 0
no_bytes None h = refl
no_bytes (Some bs) h = cc

-- a number without a dataspace has no owner
pub owner_none : (l : Ledger) (k : ℕ) → IsBalanced l → get_or l.spaces.spaces k None ≡ None → get_or l.owners k None ≡ None
owner_none l k b e = no_owner (get_or l.owners k None) (b.live k ∙ ap has_bytes e)

-- a dataspace that is there has one
pub owner_some : (l : Ledger) (k : ℕ) → IsBalanced l → 0 < length (content_of l.spaces.spaces k) → (a : AccountNo) × IsOf l.owners k a
owner_some l k b h = its_owner (get_or l.owners k None) (b.live k ∙ some_bytes (get_or l.spaces.spaces k None) h)

-- a dataspace has no more bytes than there are in all
within_total : (l : Ledger) (k : ℕ) (o : Option AccountNo) → IsBalanced l → get_or l.owners k None ≡ o → length (content_of l.spaces.spaces k) ≤ l.total
within_total l k None b e =
    let none : length (content_of l.spaces.spaces k) ≡ 0 = no_bytes (get_or l.spaces.spaces k None) (sym (b.live k) ∙ ap is_some e) in
    omega arith
within_total l k (Some a) b e = omega (
  arith,
  its_within length l a k b e,
  b.used a.0,
  b.within a.0,
  account_within (λ (x : Account). x.quota.ram) refl l.accounts a.0,
  b.quotas,
)

pub content_within : (l : Ledger) (k : ℕ) → IsBalanced l → length (content_of l.spaces.spaces k) ≤ l.total
content_within l k b = within_total l k (get_or l.owners k None) b refl

-- dataspaces of two accounts are two
some_one : (a b : AccountNo) → ◌≡◌ {A = Option AccountNo} (Some a) (Some b) → a ≡ b
some_one a b e = cc

pub owners_apart : (os : Owners) (j k : ℕ) (a b : AccountNo) → IsOf os j a → IsOf os k b → (a.0 ≡ b.0 → ⊥) → j ≡ k → ⊥
owners_apart os j k a b p q ne e = ne (ap (λ (x : AccountNo). x.0) (some_one a b (sym p ∙ ap (λ i. get_or os i None) e ∙ q)))

-- where one dataspace is set, the others have their bytes and their owners
pub other_content : (ss : Contents) (k j : ℕ) (s : Option (List ℕ)) → (j ≡ k → ⊥) → content_of (set ss k s) j ≡ content_of ss j
other_content ss k j s ne = ap its_bytes (get_or-set_other ss k j s None ne)

pub other_owner : (os : Owners) (k j : ℕ) (o : Option AccountNo) (a : AccountNo) → (j ≡ k → ⊥) → IsOf os j a → IsOf (set os k o) j a
other_owner os k j o a ne p = get_or-set_other os k j o None ne ∙ p
