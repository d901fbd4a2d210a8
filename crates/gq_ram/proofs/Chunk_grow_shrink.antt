-- Chunks that come and go: dataspaces that an account makes and frees.
use Rattle.std.proofs.Common.{◌≡◌, ℕ, zero, suc, ◌+◌, ◌-◌, ◌<◌, ◌≤◌, inl, inr, Bool, true, false, cond, ltb, [], length, Option, Some, None, get_or, set}
use Rattle.std.proofs.Common.{refl, sym, ap, subst, ◌∙◌, arith}
use Rattle.std.proofs.lemmas.Bool.{cases_eq}
use Rattle.std.proofs.lemmas.Bool.Decides.{nat_tests}
use Rattle.gq_pages.specs.Frame_bytes.{zeros}
use Rattle.gq_pages.proofs.Zeroed_byte_runs.{length-zeros, get_or-zeros}
use Rattle.gq_dataspace.specs.Dataspaces.{IsVacant, content_of}
use Rattle.gq_tariff.specs.Prices.{up}
use Rattle.gq_store.specs.Store.{Grows, Shrinks, one_more}
use Rattle.gq_ram.specs.declared.account.Account.{Account}
use Rattle.gq_store.specs.declared.AccountNo.{AccountNo}
use Rattle.gq_ram.specs.declared.account.AccountFault.TheVariants.{Exceeded, ZeroSize, CapsExceeded}
use Rattle.gq_ram.specs.Account_table.{account_at, with_use, charged, relieved, available, available_caps, alloc_refusal, IsOpen}
use Rattle.gq_ram.specs.Ledgers.{Ledger, IsBalanced, IsSameWhole}
use Rattle.gq_ram.proofs.Account_caller_facts.{owner_none, its_within, account_within}
use Rattle.gq_ram.specs.Account_stores.{bytes_for, content_for, caps_left, store_at}
use Rattle.gq_ram.specs.Account_stores.{SameRest}
use Rattle.gq_ram.proofs.Account_byte_views.{bytes_own, bytes_others, is_own, own_there, own_content, none_of_others, content_here, content_elsewhere}
use Rattle.gq_ram.proofs.Account_byte_views.{account_put}
use Rattle.gq_ram.proofs.Account_byte_views.{rest_put}

-- a capability that is paid, or given back
caps_more : (price : ℕ) (x y : Account) → price ≤ 1 → x.quota.caps ≡ y.quota.caps → y.used.caps ≡ x.used.caps + price → x.used.caps + price ≤ x.quota.caps
    → caps_left price x ≡ one_more (caps_left price y)
caps_more zero x y h c u lt = refl
caps_more (suc zero) x y h c u lt = ap Some (omega (arith, c, u, lt))
caps_more (suc (suc n)) x y h c u lt = absurd (omega (arith, h))

-- a dataspace is made
module _ (l m : Ledger) (a : AccountNo) (k n : ℕ) (b : IsBalanced l) (opn : IsOpen l.accounts a.0) (whole : IsSameWhole m l)
    (vacant : IsVacant l.spaces.spaces k)
    (spaces : m.spaces.spaces ≡ set l.spaces.spaces k (Some (zeros n))) (owners : m.owners ≡ set l.owners k (Some a))
    (accounts : m.accounts ≡ charged l.accounts a.0 n l.price) where
  abbrev was : Account
  was = account_at l.accounts a.0

  abbrev more : Account
  more = with_use was (was.used.ram + n) (was.used.caps + l.price)

  payer : account_at m.accounts a.0 ≡ more
  payer = ap (λ es. account_at es a.0) accounts ∙ account_put l.accounts a.0 more opn

  here : content_for m a.0 k ≡ zeros n
  here = content_here l m k (Some a) (Some (zeros n)) b vacant.0 spaces owners a.0 ∙ bytes_own a.0 a (zeros n) refl

  elsewhere : (x j : ℕ) → (j ≡ k → ⊥) → content_for m x j ≡ content_for l x j
  elsewhere = content_elsewhere l m k (Some a) (Some (zeros n)) b vacant.0 spaces owners

  none : (x : ℕ) → content_for l x k ≡ []
  none x = ap (λ o. bytes_for x o (content_of l.spaces.spaces k)) (owner_none l k b vacant.1)

  pub grown : n ≤ available was → l.price ≤ available_caps was → Grows (store_at l a.0) (store_at m a.0) k n
  grown bytes caps = record {
    number = omega (arith, b.few, b.tables, vacant.0);
    fresh = ap length (none a.0);
    size = ap length here ∙ length-zeros n;
    zero = λ i h. ap (λ bs. get_or bs i 0) here ∙ get_or-zeros n i h;
    sizes = λ j ne. ap length (elsewhere a.0 j ne);
    bytes = λ j i ne. ap (λ bs. get_or bs i 0) (elsewhere a.0 j ne);
    paid = omega (arith, ap (λ (x : Account). x.quota.ram) payer, ap (λ (x : Account). x.used.ram) payer, bytes, b.within a.0);
    caps = caps_more l.price was (account_at m.accounts a.0) b.priced (sym (ap (λ (x : Account). x.quota.caps) payer))
        (ap (λ (x : Account). x.used.caps) payer) (omega (arith, caps, b.caps_within a.0))
        ∙ ap (λ p. one_more (caps_left p (account_at m.accounts a.0))) (sym whole.0);
    few = omega (
      arith,
      bytes,
      account_within (λ (x : Account). x.quota.ram) refl l.accounts a.0,
      b.quotas,
      b.small,
    );
  }

  pub grown_rest : SameRest a.0 l m
  grown_rest = rest_put l m a more opn accounts refl refl whole (λ x j ne. elim (cases_eq j k) [
    | inl e ↦ subst (λ y. content_for m x y ≡ content_for l x y) (sym e)
        (content_here l m k (Some a) (Some (zeros n)) b vacant.0 spaces owners x ∙ bytes_others x a (zeros n) (λ f. ne (sym f)) ∙ sym (none x))
    | inr other ↦ elsewhere x j other
  ])

-- a dataspace goes
module _ (l m : Ledger) (a : AccountNo) (k : ℕ) (b : IsBalanced l) (opn : IsOpen l.accounts a.0) (whole : IsSameWhole m l)
    (some : 0 < length (content_for l a.0 k)) (spaces : m.spaces.spaces ≡ set l.spaces.spaces k None) (owners : m.owners ≡ set l.owners k None)
    (accounts : m.accounts ≡ relieved l.accounts a.0 (length (content_of l.spaces.spaces k)) l.price) where
  abbrev before : Account
  before = account_at l.accounts a.0

  abbrev size : ℕ
  size = length (content_of l.spaces.spaces k)

  abbrev less : Account
  less = with_use before (before.used.ram - size) (before.used.caps - l.price)

  relieved_payer : account_at m.accounts a.0 ≡ less
  relieved_payer = ap (λ es. account_at es a.0) accounts ∙ account_put l.accounts a.0 less opn

  gone_here : (x : ℕ) → content_for m x k ≡ []
  gone_here = content_here l m k None None b (own_there l a k some b) spaces owners

  gone_elsewhere : (x j : ℕ) → (j ≡ k → ⊥) → content_for m x j ≡ content_for l x j
  gone_elsewhere = content_elsewhere l m k None None b (own_there l a k some b) spaces owners

  pub shrunk : Shrinks (store_at l a.0) (store_at m a.0) k
  shrunk =
      let own = is_own l a k some in
      let used : size ≤ before.used.ram = omega (arith, b.used a.0, its_within length l a k b own) in
      let used_caps : l.price ≤ before.used.caps = omega (arith, b.caps_used a.0, its_within (λ _. l.price) l a k b own) in
      record {
        gone = ap length (gone_here a.0);
        sizes = λ j ne. ap length (gone_elsewhere a.0 j ne);
        bytes = λ j i ne. ap (λ bs. get_or bs i 0) (gone_elsewhere a.0 j ne);
        back = omega (
          arith,
          ap (λ (x : Account). x.quota.ram) relieved_payer,
          ap (λ (x : Account). x.used.ram) relieved_payer,
          used,
          b.within a.0,
          ap length (own_content l a k some),
        );
        caps = ap (λ p. caps_left p (account_at m.accounts a.0)) whole.0 ∙ caps_more l.price (account_at m.accounts a.0) before b.priced
            (ap (λ (x : Account). x.quota.caps) relieved_payer) (omega (arith, ap (λ (x : Account). x.used.caps) relieved_payer, used_caps))
            (omega (
              arith,
              ap (λ (x : Account). x.quota.caps) relieved_payer,
              ap (λ (x : Account). x.used.caps) relieved_payer,
              used_caps,
              b.caps_within a.0,
            ));
      }

  pub shrunk_rest : SameRest a.0 l m
  shrunk_rest = rest_put l m a less opn accounts refl refl whole (λ x j ne. elim (cases_eq j k) [
    | inl e ↦ subst (λ y. content_for m x y ≡ content_for l x y) (sym e) (gone_here x ∙ sym (none_of_others l a k some x ne))
    | inr other ↦ gone_elsewhere x j other
  ])

-- what a call that is not refused can pay
refused_not : {A : Type 0} (b : Bool) (x : A) (o : Option A) → cond b (Some x) o ≡ None → (b ≡ false) × (o ≡ None)
refused_not true x o e = cc
refused_not false x o e = (refl, e)

allowed_some : {A : Type 0} (b : Bool) (x : A) (o : Option A) → cond b o (Some x) ≡ None → o ≡ None
allowed_some true x o e = e
allowed_some false x o e = cc

not_below : (m n : ℕ) → ltb m n ≡ false → n ≤ m
not_below m n e = grind (arith, nat_tests)

pub allowed_pays : (a : Account) (price n : ℕ) → alloc_refusal a price n ≡ None → (up n ≤ available a) × (price ≤ available_caps a)
allowed_pays a price n e =
    let x = refused_not (ltb (available a) (up n)) Exceeded _ (allowed_some (ltb 0 n) ZeroSize _ e) in
    let y = refused_not (ltb (available_caps a) price) CapsExceeded None x.1 in
    (not_below (available a) (up n) x.0, not_below (available_caps a) price y.0)
