-- The bytes of a dataspace for an account: its own, and none of another's; and what stays where one entry changes.
use Rattle.std.proofs.Common.{◌≡◌, ℕ, ◌<◌, inl, inr, true, false, cond, eqb, List, [], length, Option, Some, None, get_or, set, get_or-set_same}
use Rattle.std.proofs.Common.{get_or-set_other, refl, sym, ap, subst, ◌∙◌, arith}
use Rattle.std.specs.Prelude.{is_some, IsTrue}
use Rattle.std.proofs.lemmas.Bool.{cases_eq}
use Rattle.std.proofs.lemmas.Bool.Decides.{nat_tests}
use Rattle.gq_pages.specs.Frame_map.{its_bytes}
use Rattle.gq_dataspace.specs.Dataspaces.{content_of}
use Rattle.gq_ram.specs.declared.account.Account.{Account}
use Rattle.gq_store.specs.declared.AccountNo.{AccountNo}
use Rattle.gq_ram.specs.Account_table.{Entries, account_at, its_account, available, IsOpen}
use Rattle.gq_ram.specs.Owning.{IsOf}
use Rattle.gq_ram.specs.Ledgers.{Ledger, IsBalanced, IsSameWhole}
use Rattle.gq_ram.proofs.Account_caller_facts.{open_there, open_put, some_there, its_some, its_within, is_same, it_true}
use Rattle.gq_ram.specs.Account_stores.{bytes_for, content_for, caps_left, store_at}
use Rattle.gq_ram.specs.Account_stores.{SameRest}

same_number : (a : ℕ) → eqb a a ≡ true
same_number a = grind (arith, nat_tests)

pub bytes_own : (a : ℕ) (o : AccountNo) (bs : List ℕ) → o.0 ≡ a → bytes_for a (Some o) bs ≡ bs
bytes_own a o bs e = ap (λ b. cond b bs []) (ap (λ x. eqb x a) e ∙ same_number a)

pub bytes_others : (a : ℕ) (o : AccountNo) (bs : List ℕ) → (o.0 ≡ a → ⊥) → bytes_for a (Some o) bs ≡ []
bytes_others a o bs ne = let e : eqb o.0 a ≡ false = grind (arith, nat_tests, ne) in ap (λ b. cond b bs []) e

own_in : (o : Option AccountNo) (a : AccountNo) (bs : List ℕ) → 0 < length (bytes_for a.0 o bs) → o ≡ Some a
own_in None a bs h = absurd (omega (arith, h))
own_in (Some o) a bs h = elim (cases_eq o.0 a.0) [
  | inl e ↦ is_same (Some o) a (it_true o a e)
  | inr ne ↦ absurd (omega (arith, h, ap length (bytes_others a.0 o bs ne)))
]

-- a dataspace that has bytes for the account is its own, it is there, and these are its bytes
module _ (l : Ledger) (a : AccountNo) (k : ℕ) (some : 0 < length (content_for l a.0 k)) where
  pub is_own : IsOf l.owners k a
  is_own = own_in (get_or l.owners k None) a (content_of l.spaces.spaces k) some

  pub own_there : IsBalanced l → k < length l.spaces.spaces
  own_there b = some_there l.spaces.spaces k (content_of l.spaces.spaces k) (its_some l a k b is_own)

  pub own_content : content_for l a.0 k ≡ content_of l.spaces.spaces k
  own_content = ap (λ o. bytes_for a.0 o (content_of l.spaces.spaces k)) is_own ∙ bytes_own a.0 a (content_of l.spaces.spaces k) refl

  pub none_of_others : (x : ℕ) → (x ≡ a.0 → ⊥) → content_for l x k ≡ []
  none_of_others x ne =
      ap (λ o. bytes_for x o (content_of l.spaces.spaces k)) is_own ∙ bytes_others x a (content_of l.spaces.spaces k) (λ e. ne (sym e))

-- an account that uses something is open
open_where : (o : Option Account) → 0 < (its_account o).used.ram → IsTrue (is_some o)
open_where None h = absurd (omega (arith, h))
open_where (Some x) h = refl

pub owner_open : (l : Ledger) (a : AccountNo) (k : ℕ) → IsBalanced l → 0 < length (content_for l a.0 k) → IsOpen l.accounts a.0
owner_open l a k b some = open_where (get_or l.accounts a.0 None) (omega (
  arith,
  some,
  ap length (own_content l a k some),
  its_within length l a k b (is_own l a k some),
  b.used a.0,
))

-- an account that is not open can pay nothing
none_left : (o : Option Account) → (IsTrue (is_some o) → ⊥) → available (its_account o) ≡ 0
none_left None h = refl
none_left (Some x) h = absurd (h refl)

pub closed_left : (l : Ledger) (a : ℕ) → (IsOpen l.accounts a → ⊥) → (store_at l a).left ≡ 0
closed_left l a h = none_left (get_or l.accounts a None) h

-- a number gets another dataspace, and another owner
module _ (l m : Ledger) (k : ℕ) (o : Option AccountNo) (s : Option (List ℕ)) (b : IsBalanced l) (there : k < length l.spaces.spaces)
    (spaces : m.spaces.spaces ≡ set l.spaces.spaces k s) (owners : m.owners ≡ set l.owners k o) where
  pub content_here : (x : ℕ) → content_for m x k ≡ bytes_for x o (its_bytes s)
  content_here x =
      let p : get_or m.owners k None ≡ o = ap (λ os. get_or os k None) owners ∙ get_or-set_same l.owners k o None (omega (arith, b.tables, there)) in
      let q : get_or m.spaces.spaces k None ≡ s = ap (λ ss. get_or ss k None) spaces ∙ get_or-set_same l.spaces.spaces k s None there in
      λ t. bytes_for x (p t) (its_bytes (q t))

  pub content_elsewhere : (x j : ℕ) → (j ≡ k → ⊥) → content_for m x j ≡ content_for l x j
  content_elsewhere x j ne =
      let p : get_or m.owners j None ≡ get_or l.owners j None = ap (λ os. get_or os j None) owners ∙ get_or-set_other l.owners k j o None ne in
      let q : get_or m.spaces.spaces j None ≡ get_or l.spaces.spaces j None = ap (λ ss. get_or ss j None) spaces
      ∙ get_or-set_other l.spaces.spaces k j s None ne in
      λ t. bytes_for x (p t) (its_bytes (q t))

-- an account, after a payment
pub account_put : (es : Entries) (a : ℕ) (y : Account) → IsOpen es a → account_at (set es a (Some y)) a ≡ y
account_put es a y opn = ap its_account (get_or-set_same es a (Some y) None (open_there es a opn))

was_open : (es : Entries) (a : ℕ) (y : Account) (x : ℕ) → IsOpen es a → IsOpen (set es a (Some y)) x → IsOpen es x
was_open es a y x opn h = elim (cases_eq x a) [
  | inl e ↦ subst (IsOpen es) (sym e) opn
  | inr ne ↦ subst (λ (o : Option Account). IsTrue (is_some o)) (get_or-set_other es a x (Some y) None ne) h
]

-- where an account and all its dataspaces are the same, so is its store
pub same_store : (l m : Ledger) (x : ℕ) → get_or m.accounts x None ≡ get_or l.accounts x None → m.price ≡ l.price
    → ((k : ℕ) → content_for m x k ≡ content_for l x k) → store_at m x ≡ store_at l x
same_store l m x entry price contents = λ t. record {
  byte = λ k i. get_or (contents k t) i 0;
  size = λ k. length (contents k t);
  left = available (its_account (entry t));
  caps = caps_left (price t) (its_account (entry t));
}

-- Only what one account uses differs, and dataspaces of its own.
pub rest_put : (l m : Ledger) (a : AccountNo) (y : Account) → IsOpen l.accounts a.0 → m.accounts ≡ set l.accounts a.0 (Some y)
    → y.quota ≡ (account_at l.accounts a.0).quota → y.reference ≡ (account_at l.accounts a.0).reference → IsSameWhole m l
    → ((x k : ℕ) → (x ≡ a.0 → ⊥) → content_for m x k ≡ content_for l x k)
    → SameRest a.0 l m
rest_put l m a y opn accounts quota reference whole contents =
    let now : account_at m.accounts a.0 ≡ y = ap (λ es. account_at es a.0) accounts ∙ account_put l.accounts a.0 y opn in
    let entry : (x : ℕ) → (x ≡ a.0 → ⊥) → get_or m.accounts x None ≡ get_or l.accounts x None =
    λ x ne. ap (λ es. get_or es x None) accounts ∙ get_or-set_other l.accounts a.0 x (Some y) None ne in
    record {
      stores = λ x ne. same_store l m x (entry x ne) whole.0 (λ k. contents x k ne);
      accounts = entry;
      quota = ap (λ (z : Account). z.quota) now ∙ quota;
      reference = ap (λ (z : Account). z.reference) now ∙ reference;
      still_open = λ x h. subst (λ es. IsOpen es x) (sym accounts) (open_put l.accounts a.0 y x h);
      were_open = λ x h. was_open l.accounts a.0 y x opn (subst (λ es. IsOpen es x) accounts h);
      whole = whole;
    }
