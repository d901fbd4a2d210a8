-- Sums over accounts and over dataspaces, as one entry changes.
use Rattle.std.proofs.Common.{◌≡◌, ℕ, zero, suc, ◌+◌, ◌<◌, ◌≤◌, ◌⊎◌, Result, Ok, Err, IsOk, inl, inr, List, [], ◌∷◌, length, set, get_or, nat_eq}
use Rattle.std.proofs.Common.{if◌then◌else◌, Option, Some, None, IsTrue, Bool, true, false, is_some, refl, sym, ap, subst, ◌∙◌, arith}
use Rattle.std.proofs.lemmas.Bool.{cases_eq}
use Rattle.std.proofs.lemmas.Bool.Decides.{eqb_tells}
use Rattle.std.proofs.lemmas.List.{get_or-set_same, get_or-set_other}
use Rattle.gq_pages.specs.Frame_map.{has_bytes, its_bytes}
use Rattle.gq_dataspace.specs.Dataspaces.{Contents}
use Rattle.gq_ram.specs.declared.account.Account.{Account}
use Rattle.gq_store.specs.declared.AccountNo.{AccountNo}
use Rattle.gq_ram.specs.Account_table.{Entries, account_at, its_account, no_account, is_it, are_related, has_members, sum_over, IsOpen}
use Rattle.gq_ram.specs.Owning.{Owners, share, owned, IsOf}

-- the amount of one entry
abbrev pub amount : (Account → ℕ) → Option Account → ℕ
amount f None = 0
amount f (Some a) = f a

pub open_there : (es : Entries) (k : ℕ) → IsOpen es k → k < length es
open_there [] k h = cc
open_there (a ∷ es) zero h = omega arith
open_there (a ∷ es) (suc k) h = omega (arith, open_there es k h)

pub sum_set : (f : Account → ℕ) (es : Entries) (k : ℕ) (y : Option Account) → k < length es
    → sum_over f (set es k y) + amount f (get_or es k None) ≡ sum_over f es + amount f y
sum_set f [] k y h = absurd (omega (arith, h))
sum_set f (None ∷ es) zero None h = omega arith
sum_set f (None ∷ es) zero (Some b) h = omega arith
sum_set f (Some a ∷ es) zero None h = omega arith
sum_set f (Some a ∷ es) zero (Some b) h = omega arith
sum_set f (None ∷ es) (suc k) y h = sum_set f es k y (omega (arith, h))
sum_set f (Some a ∷ es) (suc k) y h = omega (arith, sum_set f es k y (omega (arith, h)))

pub one_within : (f : Account → ℕ) (es : Entries) (k : ℕ) → amount f (get_or es k None) ≤ sum_over f es
one_within f [] k = omega arith
one_within f (None ∷ es) zero = omega arith
one_within f (Some a ∷ es) zero = omega arith
one_within f (None ∷ es) (suc k) = one_within f es k
one_within f (Some a ∷ es) (suc k) = omega (arith, one_within f es k)

-- where each has at most as much of g as of f, what one has left is within what all have left
pub all_within : (f g : Account → ℕ) (es : Entries) → ((k : ℕ) → amount g (get_or es k None) ≤ amount f (get_or es k None)) → sum_over g es ≤ sum_over f es
all_within f g [] h = omega arith
all_within f g (None ∷ es) h = all_within f g es (λ k. h (suc k))
all_within f g (Some a ∷ es) h = omega (arith, h 0, all_within f g es (λ k. h (suc k)))

pub slack : (f g : Account → ℕ) (es : Entries) (k : ℕ) → ((k : ℕ) → amount g (get_or es k None) ≤ amount f (get_or es k None))
    → sum_over g es + amount f (get_or es k None) ≤ sum_over f es + amount g (get_or es k None)
slack f g [] k h = omega arith
slack f g (None ∷ es) zero h = omega (arith, all_within f g es (λ k. h (suc k)))
slack f g (Some a ∷ es) zero h = omega (arith, all_within f g es (λ k. h (suc k)))
slack f g (None ∷ es) (suc k) h = slack f g es k (λ k. h (suc k))
slack f g (Some a ∷ es) (suc k) h = omega (arith, h 0, slack f g es k (λ k. h (suc k)))

amount_is : (f : Account → ℕ) → f no_account ≡ 0 → (o : Option Account) → amount f o ≡ f (its_account o)
amount_is f z None = sym z
amount_is f z (Some a) = refl

-- the sum as one account changes
pub sum_put : (f : Account → ℕ) → f no_account ≡ 0 → (es : Entries) (k : ℕ) (o : Option Account) → k < length es
    → sum_over f (set es k o) + f (account_at es k) ≡ sum_over f es + f (its_account o)
sum_put f z es k o lt = omega (arith, sum_set f es k o lt, amount_is f z (get_or es k None), amount_is f z o)

pub account_within : (f : Account → ℕ) → f no_account ≡ 0 → (es : Entries) (k : ℕ) → f (account_at es k) ≤ sum_over f es
account_within f z es k = omega (arith, one_within f es k, amount_is f z (get_or es k None))

pub account_slack : (f g : Account → ℕ) → f no_account ≡ 0 → g no_account ≡ 0 → (es : Entries) (k : ℕ) → ((k : ℕ) → g (account_at es k) ≤ f (account_at es k))
    → sum_over g es + f (account_at es k) ≤ sum_over f es + g (account_at es k)
account_slack f g zf zg es k h = omega (
  arith,
  slack f g es k (λ j. omega (arith, h j, amount_is f zf (get_or es j None), amount_is g zg (get_or es j None))),
  amount_is f zf (get_or es k None),
  amount_is g zg (get_or es k None),
)

-- what holds of each account, as one changes
pub each_set : (P : ℕ → Account → Type 0) (es : Entries) (k : ℕ) (o : Option Account) → k < length es → P k (its_account o) → ((a : ℕ) → P a (account_at es a))
    → (a : ℕ) → P a (account_at (set es k o) a)
each_set P es k o lt here each a = elim (cases_eq a k) [
  | inl e ↦ subst (λ (b : ℕ). P b (account_at (set es k o) b)) (sym e) (subst (λ (x : Account). P k x) (sym (ap its_account (get_or-set_same es k o None lt)))
      here)
  | inr other ↦ subst (λ (x : Account). P a x) (sym (ap its_account (get_or-set_other es k a o None other))) (each a)
]

pub open_put : (es : Entries) (k : ℕ) (y : Account) (j : ℕ) → IsOpen es j → IsOpen (set es k (Some y)) j
open_put [] k y j h = h
open_put (a ∷ es) zero y zero h = refl
open_put (a ∷ es) zero y (suc j) h = h
open_put (a ∷ es) (suc k) y zero h = h
open_put (a ∷ es) (suc k) y (suc j) h = open_put es k y j h

pub open_other : (es : Entries) (k : ℕ) (o : Option Account) (j : ℕ) → (j ≡ k → ⊥) → IsOpen es j → IsOpen (set es k o) j
open_other es k o j other h = subst (λ (x : Option Account). IsTrue (is_some x)) (sym (get_or-set_other es k j o None other)) h

-- ---- dataspaces
pub owned_set : (f : List ℕ → ℕ) (a : ℕ) (ss : Contents) (os : Owners) (k : ℕ) (s : Option (List ℕ)) (o : Option AccountNo) → k < length ss
    → length os ≡ length ss
    → owned f a (set ss k s) (set os k o) + share f a (get_or ss k None) (get_or os k None) ≡ owned f a ss os + share f a s o
owned_set f a [] os k s o h n = absurd (omega (arith, h))
owned_set f a (x ∷ ss) [] k s o h n = absurd (omega (arith, n))
owned_set f a (x ∷ ss) (y ∷ os) zero s o h n = omega arith
owned_set f a (x ∷ ss) (y ∷ os) (suc k) s o h n = omega (arith, owned_set f a ss os k s o (omega (arith, h)) (omega (arith, n)))

pub owned_rewritten : (f : List ℕ → ℕ) (a : ℕ) (ss : Contents) (os : Owners) (k : ℕ) (s : Option (List ℕ)) → k < length ss → length os ≡ length ss
    → owned f a (set ss k s) os + share f a (get_or ss k None) (get_or os k None) ≡ owned f a ss os + share f a s (get_or os k None)
owned_rewritten f a [] os k s h n = absurd (omega (arith, h))
owned_rewritten f a (x ∷ ss) [] k s h n = absurd (omega (arith, n))
owned_rewritten f a (x ∷ ss) (y ∷ os) zero s h n = omega arith
owned_rewritten f a (x ∷ ss) (y ∷ os) (suc k) s h n = omega (arith, owned_rewritten f a ss os k s (omega (arith, h)) (omega (arith, n)))

pub share_within : (f : List ℕ → ℕ) (a : ℕ) (ss : Contents) (os : Owners) (k : ℕ) → k < length ss → length os ≡ length ss
    → share f a (get_or ss k None) (get_or os k None) ≤ owned f a ss os
share_within f a [] os k h n = absurd (omega (arith, h))
share_within f a (x ∷ ss) [] k h n = absurd (omega (arith, n))
share_within f a (x ∷ ss) (y ∷ os) zero h n = omega arith
share_within f a (x ∷ ss) (y ∷ os) (suc k) h n = omega (arith, share_within f a ss os k (omega (arith, h)) (omega (arith, n)))

pub share_own : (f : List ℕ → ℕ) (a : ℕ) (bs : List ℕ) (o : AccountNo) → o.0 ≡ a → share f a (Some bs) (Some o) ≡ f bs
share_own f a bs o e = elim (eqb_tells o.0 a) [ inl t ↦ rw t.0 refl | inr n ↦ absurd (n.1 e) ]

pub share_other : (f : List ℕ → ℕ) (a : ℕ) (bs : List ℕ) (o : AccountNo) → (o.0 ≡ a → ⊥) → share f a (Some bs) (Some o) ≡ 0
share_other f a bs o h = elim (eqb_tells o.0 a) [ inl t ↦ absurd (h t.1) | inr n ↦ rw n.0 refl ]

-- ---- reference accounts
pub it_same : (x : Option AccountNo) (a : ℕ) (b : AccountNo) → ((r : AccountNo) → x ≡ Some r → r.0 ≡ a → ⊥) → is_it x b ≡ true → b.0 ≡ a → ⊥
it_same None a b h t e = cc
it_same (Some r) a b h t e = elim (eqb_tells r.0 b.0) [ inl s ↦ h r refl (s.1 ∙ e) | inr n ↦ absurd (cc (n.0, t)) ]

pub is_same : (o : Option AccountNo) (a : AccountNo) → is_it o a ≡ true → o ≡ Some a
is_same None a t = cc t
is_same (Some r) a t = elim (eqb_tells r.0 a.0) [ inl s ↦ (let e : r.0 ≡ a.0 = s.1 in λ i. Some (record { 0 = e i })) | inr n ↦ absurd (cc (n.0, t)) ]

pub is_other : (o : Option AccountNo) (a : AccountNo) → is_it o a ≡ false → o ≡ Some a → ⊥
is_other None a f e = cc e
is_other (Some r) a f e = elim (eqb_tells r.0 a.0) [ inl s ↦ cc (s.0, f) | inr n ↦ n.1 (let q : r ≡ a = cc e in ap (λ (b : AccountNo). b.0) q) ]

cases_true : (b : Bool) → (b ≡ true) ⊎ (b ≡ false)
cases_true true = inl refl
cases_true false = inr refl

pub related_apart : (es : Entries) (a b : AccountNo) → ((k : ℕ) (r : AccountNo) → (account_at es k).reference ≡ Some r → r.0 ≡ k → ⊥)
    → are_related es a b ≡ true → b.0 ≡ a.0 → ⊥
related_apart es a b h t e = elim (cases_true (is_it (account_at es a.0).reference b)) [
  | inl y ↦ it_same (account_at es a.0).reference a.0 b (h a.0) y e
  | inr n ↦ it_same (account_at es b.0).reference b.0 a (h b.0) (sym (rw n refl) ∙ t) (sym e)
]

pub live_some : (o : Option (List ℕ)) → has_bytes o ≡ true → o ≡ Some (its_bytes o)
live_some None h = cc
live_some (Some bs) h = refl

pub some_bytes : (o : Option (List ℕ)) → 0 < length (its_bytes o) → o ≡ Some (its_bytes o)
some_bytes None h = absurd (omega (arith, h))
some_bytes (Some bs) h = refl

pub some_there : (ss : Contents) (k : ℕ) (bs : List ℕ) → get_or ss k None ≡ Some bs → k < length ss
some_there [] k bs e = cc
some_there (s ∷ ss) zero bs e = omega arith
some_there (s ∷ ss) (suc k) bs e = omega (arith, some_there ss k bs e)

pub owner_there : (os : Owners) (k : ℕ) (a : AccountNo) → get_or os k None ≡ Some a → k < length os
owner_there [] k a e = cc
owner_there (o ∷ os) zero a e = omega arith
owner_there (o ∷ os) (suc k) a e = omega (arith, owner_there os k a e)

pub share_same : (f : List ℕ → ℕ) (a : ℕ) (bs cs : List ℕ) (o : Option AccountNo) → f bs ≡ f cs → share f a (Some bs) o ≡ share f a (Some cs) o
share_same f a bs cs None e = refl
share_same f a bs cs (Some o) e = ap (λ (n : ℕ). if nat_eq o.0 a then n else 0) e

pub err_no_ok : {A : Type 0} {E : Type 0} → (r : Result A E) (e : E) → r ≡ Err e → IsOk r → ⊥
err_no_ok (Ok x) e h t = cc
err_no_ok (Err d) e h t = cc

-- where no dataspace is of the account, it owns nothing
pub owned_none : (f : List ℕ → ℕ) (a : AccountNo) (ss : Contents) (os : Owners) → ((k : ℕ) → IsOf os k a → ⊥) → owned f a.0 ss os ≡ 0
owned_none f a [] os h = refl
owned_none f a (s ∷ ss) [] h = refl
owned_none f a (None ∷ ss) (o ∷ os) h = omega (arith, owned_none f a ss os (λ k. h (suc k)))
owned_none f a (Some bs ∷ ss) (None ∷ os) h = omega (arith, owned_none f a ss os (λ k. h (suc k)))
owned_none f a (Some bs ∷ ss) (Some o ∷ os) h =
    omega (arith, owned_none f a ss os (λ k. h (suc k)), share_other f a.0 bs o (λ (e : o.0 ≡ a.0). h 0 (λ i. Some (record { 0 = e i }))))

pub not_both : (b : Bool) → b ≡ true → b ≡ false → ⊥
not_both true t f = cc
not_both false t f = cc

pub no_member_rest : (x : Option Account) (es : Entries) (a : AccountNo) → is_it (its_account x).reference a ≡ false
    → ((k : ℕ) → is_it (account_at es k).reference a ≡ false) → (k : ℕ) → is_it (account_at (x ∷ es) k).reference a ≡ false
no_member_rest x es a n rest zero = n
no_member_rest x es a n rest (suc k) = rest k

pub no_member : (es : Entries) (a : AccountNo) → has_members es a ≡ false → (k : ℕ) → is_it (account_at es k).reference a ≡ false
no_member [] a h k = refl
no_member (x ∷ es) a h k = elim (cases_true (is_it (its_account x).reference a)) [
  | inl y ↦ absurd (let t : has_members (x ∷ es) a ≡ true = rw y refl in not_both (has_members (x ∷ es) a) t h)
  | inr n ↦ no_member_rest x es a n (no_member es a (let t : has_members (x ∷ es) a ≡ has_members es a = rw n refl in sym t ∙ h)) k
]

pub it_true : (q a : AccountNo) → q.0 ≡ a.0 → is_it (Some q) a ≡ true
it_true q a e = elim (eqb_tells q.0 a.0) [ inl t ↦ t.0 | inr n ↦ absurd (n.1 e) ]

pub owner_default : (os : Owners) (k : ℕ) (d : Option AccountNo) → k < length os → get_or os k d ≡ get_or os k None
owner_default [] k d lt = absurd (omega (arith, lt))
owner_default (o ∷ os) zero d lt = refl
owner_default (o ∷ os) (suc k) d lt = owner_default os k d (omega (arith, lt))
