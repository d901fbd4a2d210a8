-- Tables of accounts by what each number has, and the accounts of a table one after the other.
use Rattle.std.proofs.Common.{◌≡◌, ℕ, zero, suc, ◌+◌, ◌-◌, ◌<◌, inl, inr, List, [], ◌∷◌, length, get_or, Option, Some, None, Bool, true, false}
use Rattle.std.proofs.Common.{if◌then◌else◌, IsTrue, is_some, refl, sym, ap, subst, arith}
use Rattle.std.proofs.lemmas.Bool.{cases_eq}
use Rattle.slab.specs.Slab.{entries_from}
use Rattle.gq_ram.specs.declared.account.Account.{Account}
use Rattle.gq_store.specs.declared.AccountNo.{AccountNo}
use Rattle.gq_ram.specs.Account_table.{Entries, account_at, its_account, is_it, has_members, sum_over, IsOpen}

-- two tables with the same at each number have the same sums
sum_same : (f : Account → ℕ) (es fs : Entries) → ((k : ℕ) → get_or fs k None ≡ get_or es k None) → sum_over f fs ≡ sum_over f es
sum_same f [] [] h = refl
sum_same f [] (None ∷ fs) h = sum_same f [] fs (λ k. h (suc k))
sum_same f [] (Some y ∷ fs) h = cc (h 0)
sum_same f (None ∷ es) [] h = sum_same f es [] (λ k. h (suc k))
sum_same f (Some x ∷ es) [] h = cc (h 0)
sum_same f (None ∷ es) (None ∷ fs) h = sum_same f es fs (λ k. h (suc k))
sum_same f (None ∷ es) (Some y ∷ fs) h = cc (h 0)
sum_same f (Some x ∷ es) (None ∷ fs) h = cc (h 0)
sum_same f (Some x ∷ es) (Some y ∷ fs) h = let e : y ≡ x = cc (h 0) in omega (arith, ap f e, sum_same f es fs (λ k. h (suc k)))

-- the same at each number but k
abbrev pub AreOthers : Entries → Entries → ℕ → Type 0
AreOthers es fs k = (j : ℕ) → (j ≡ k → ⊥) → get_or fs j None ≡ get_or es j None

-- the sum where one more number has an account
pub sum_opened : (f : Account → ℕ) (es fs : Entries) (k : ℕ) (y : Account) → get_or es k None ≡ None → get_or fs k None ≡ Some y
    → AreOthers es fs k → sum_over f fs ≡ f y + sum_over f es
sum_opened f es [] k y closed here others = cc (here)
sum_opened f [] (None ∷ fs) zero y closed here others = cc (here)
sum_opened f [] (Some z ∷ fs) zero y closed here others =
    let e : z ≡ y = cc (here) in omega (arith, ap f e, sum_same f [] fs (λ k. others (suc k) (λ d. omega (arith, d))))
sum_opened f [] (None ∷ fs) (suc k) y closed here others = sum_opened f [] fs k y refl here (λ j n. others (suc j) (λ d. n (omega (arith, d))))
sum_opened f [] (Some z ∷ fs) (suc k) y closed here others = cc (others 0 (λ d. omega (arith, d)))
sum_opened f (Some x ∷ es) (z ∷ fs) zero y closed here others = cc (closed)
sum_opened f (None ∷ es) (None ∷ fs) zero y closed here others = cc (here)
sum_opened f (None ∷ es) (Some z ∷ fs) zero y closed here others =
    let e : z ≡ y = cc (here) in omega (arith, ap f e, sum_same f es fs (λ k. others (suc k) (λ d. omega (arith, d))))
sum_opened f (None ∷ es) (None ∷ fs) (suc k) y closed here others =
    sum_opened f es fs k y closed here (λ j n. others (suc j) (λ d. n (omega (arith, d))))
sum_opened f (None ∷ es) (Some z ∷ fs) (suc k) y closed here others = cc (others 0 (λ d. omega (arith, d)))
sum_opened f (Some x ∷ es) (None ∷ fs) (suc k) y closed here others = cc (others 0 (λ d. omega (arith, d)))
sum_opened f (Some x ∷ es) (Some z ∷ fs) (suc k) y closed here others =
    let e : z ≡ x = cc (others 0 (λ d. omega (arith, d))) in
    omega (arith, ap f e, sum_opened f es fs k y closed here (λ j n. others (suc j) (λ d. n (omega (arith, d)))))

-- what holds of each account, where one more number has one
pub each_opened : (P : ℕ → Account → Type 0) (es fs : Entries) (k : ℕ) (y : Account) → get_or fs k None ≡ Some y → AreOthers es fs k → P k y
    → ((a : ℕ) → P a (account_at es a)) → (a : ℕ) → P a (account_at fs a)
each_opened P es fs k y here others its each a = elim (cases_eq a k) [
  | inl e ↦ subst (λ (b : ℕ). P b (account_at fs b)) (sym e) (subst (λ (x : Account). P k x) (sym (ap its_account here)) its)
  | inr other ↦ subst (λ (x : Account). P a x) (sym (ap its_account (others a other))) (each a)
]

pub open_opened : (es fs : Entries) (k : ℕ) → get_or es k None ≡ None → AreOthers es fs k → (j : ℕ) → IsOpen es j → IsOpen fs j
open_opened es fs k closed others j opened = elim (cases_eq j k) [
  | inl e ↦ cc (subst (λ (i : ℕ). IsOpen es i) e opened, closed)
  | inr other ↦ subst (λ (x : Option Account). IsTrue (is_some x)) (sym (others j other)) opened
]

-- a table with an account under the number 0 alone, where the last number has one
pub one_alone : (es : Entries) (x : Account) → get_or es 0 None ≡ Some x → ((j : ℕ) → (j ≡ 0 → ⊥) → get_or es j None ≡ None)
    → (0 < length es → IsTrue (is_some (get_or es (length es - 1) None))) → es ≡ Some x ∷ []
one_alone [] x here others last = cc (here)
one_alone (e ∷ []) x here others last = ap (λ (o : Option Account). o ∷ []) here
one_alone (e ∷ f ∷ es) x here others last = cc (last (omega arith), others (length (e ∷ f ∷ es) - 1) (λ d. omega (arith, d)))

-- one of these accounts has the account a as its reference account
abbrev pub refers : List (ℕ × Account) → AccountNo → Bool
refers [] a = false
refers (x ∷ xs) a = if is_it x.1.reference a then true else refers xs a

pub refers_all : (k : ℕ) (es : Entries) (a : AccountNo) → refers (entries_from k es) a ≡ has_members es a
refers_all k [] a = refl
refers_all k (None ∷ es) a = refers_all (k + 1) es a
refers_all k (Some x ∷ es) a = ap (λ (b : Bool). if is_it x.reference a then true else b) (refers_all (k + 1) es a)
