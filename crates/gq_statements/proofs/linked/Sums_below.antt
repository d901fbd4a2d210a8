-- Sums over all numbers below a bound.
use Rattle.std.proofs.Common.{◌≡◌, ℕ, zero, suc, ◌+◌, ◌*◌, ◌<◌, ◌≤◌, inl, inr, Bool, true, false, List, [], ◌∷◌, length, set, Some, None, refl, ap}
use Rattle.std.proofs.Common.{arith, ◌==◌}
use Rattle.std.proofs.lemmas.Bool.Decides.{eqb_tells}
use Rattle.std.proofs.lemmas.List.{get_or-set_other}
use Rattle.gq_laws.specs.Session_links.{one_if}
use Rattle.gq_laws.specs.Shapes.{Each}
use Rattle.gq_ram.specs.declared.account.Account.{Account}
use Rattle.gq_ram.specs.Account_table.{Entries, account_at, its_account, no_account, sum_over}
use Rattle.gq_trade.specs.Waiting.{AreApart, AreOther}

abbrev pub sum_below : (ℕ → ℕ) → ℕ → ℕ
sum_below g zero = 0
sum_below g (suc n) = g n + sum_below g n

pub below_le : (g h : ℕ → ℕ) (n : ℕ) → ((x : ℕ) → x < n → g x ≤ h x) → sum_below g n ≤ sum_below h n
below_le g h zero le = omega arith
below_le g h (suc n) le =
    let a = le n (omega arith) in
    let b = below_le g h n (λ x lt. le x (omega (arith, lt))) in
    omega (arith, a, b)

pub below_plus : (g h : ℕ → ℕ) (n : ℕ) → sum_below (λ x. g x + h x) n ≡ sum_below g n + sum_below h n
below_plus g h zero = refl
below_plus g h (suc n) = let a = below_plus g h n in omega (arith, a)

pub below_none : (n : ℕ) → sum_below (λ x. 0) n ≡ 0
below_none zero = refl
below_none (suc n) = let a = below_none n in omega (arith, a)

pub below_ones : (g : ℕ → ℕ) (n : ℕ) → ((x : ℕ) → g x ≤ 1) → sum_below g n ≤ n
below_ones g zero le = omega arith
below_ones g (suc n) le =
    let a = le n in
    let b = below_ones g n le in
    omega (arith, a, b)

pub below_times : (g : ℕ → ℕ) (n : ℕ) → sum_below (λ x. 4096 * g x) n ≡ 4096 * sum_below g n
below_times g zero = refl
below_times g (suc n) = let a = below_times g n in omega (arith, a)

-- from the first number on
pub below_first : (g : ℕ → ℕ) (n : ℕ) → sum_below g (suc n) ≡ g 0 + sum_below (λ x. g (suc x)) n
below_first g zero = refl
below_first g (suc n) = let a = below_first g n in omega (arith, a)

-- a term that is at one number alone
module _ (g : Bool → ℕ) (none : g false ≡ 0) (y : ℕ) where
  past : (n : ℕ) → n ≤ y → sum_below (λ x. g (y == x)) n ≡ 0
  past zero le = refl
  past (suc n) le = elim (eqb_tells y n) [
    | inl t ↦ absurd (let e = t.1 in omega (arith, e, le))
    | inr e ↦ (let a = past n (omega (arith, le)) in rw e.0 (omega (arith, a, none)))
  ]

  pub below_once : (n : ℕ) → y < n → sum_below (λ x. g (y == x)) n ≡ g true
  below_once zero lt = absurd (omega (arith, lt))
  below_once (suc n) lt = elim (eqb_tells y n) [
    | inl t ↦ (let a = past n (let e = t.1 in omega (arith, e)) in rw t.0 (omega (arith, a)))
    | inr e ↦ (let a = below_once n (below n lt e.1) in rw e.0 (omega (arith, a, none)))
  ]
    where
      below : (n : ℕ) → y < suc n → (y ≡ n → ⊥) → y < n
      below n lt ne = grind (arith, lt, ne)

  pub below_once_most : (n : ℕ) → sum_below (λ x. g (y == x)) n ≤ g true
  below_once_most zero = omega arith
  below_once_most (suc n) = elim (eqb_tells y n) [
    | inl t ↦ (let a = past n (let e = t.1 in omega (arith, e)) in rw t.0 (omega (arith, a)))
    | inr e ↦ (let a = below_once_most n in rw e.0 (omega (arith, a, none)))
  ]

-- NUMBERS THAT ARE APART

-- how often x is one of these
abbrev occurs : ℕ → List ℕ → ℕ
occurs x [] = 0
occurs x (y ∷ ys) = one_if (y == x) + occurs x ys

never : (x : ℕ) (ys : List ℕ) → AreOther x ys → occurs x ys ≡ 0
never x [] o = refl
never x (y ∷ ys) o = elim (eqb_tells y x) [ inl t ↦ absurd (o.0 t.1) | inr n ↦ (let a = never x ys o.1 in rw n.0 (omega (arith, a))) ]

once : (x : ℕ) (ys : List ℕ) → AreApart ys → occurs x ys ≤ 1
once x [] a = omega arith
once x (y ∷ ys) a = elim (eqb_tells y x) [
  | inl t ↦ (let b = ap (λ z. occurs z ys) t.1 in let c = never y ys a.0 in rw t.0 (omega (arith, b, c)))
  | inr n ↦ (let b = once x ys a.1 in rw n.0 (omega (arith, b)))
]

all_occur : (n : ℕ) (ys : List ℕ) → Each (λ y. y < n) ys → length ys ≤ sum_below (λ x. occurs x ys) n
all_occur n [] b = omega arith
all_occur n (y ∷ ys) b =
    let p = below_plus (λ x. one_if (y == x)) (λ x. occurs x ys) n in
    let e = below_once one_if refl y n b.0 in
    let a = all_occur n ys b.1 in
    omega (arith, p, e, a)

-- there are no more of them than numbers
pub apart_few : (n : ℕ) (ys : List ℕ) → AreApart ys → Each (λ y. y < n) ys → length ys ≤ n
apart_few n ys a b =
    let p = all_occur n ys b in
    let q = below_ones (λ x. occurs x ys) n (λ x. once x ys a) in
    omega (arith, p, q)

-- ACCOUNTS

module _ (f : Account → ℕ) (zero_is : f no_account ≡ 0) where
  taken_out : (es : Entries) (a : ℕ) → sum_over f es ≡ f (account_at es a) + sum_over f (set es a None)
  taken_out [] a = omega (arith, zero_is)
  taken_out (None ∷ es) zero = omega (arith, zero_is)
  taken_out (Some b ∷ es) zero = refl
  taken_out (None ∷ es) (suc a) = taken_out es a
  taken_out (Some b ∷ es) (suc a) = let e = taken_out es a in omega (arith, e)

  -- what accounts of numbers that are apart have is no more than what all have
  pub apart_within : (es : Entries) (number : ℕ → ℕ) (n : ℕ) → ((x y : ℕ) → x < n → y < n → number x ≡ number y → x ≡ y)
      → sum_below (λ x. f (account_at es (number x))) n ≤ sum_over f es
  apart_within es number zero apart = omega arith
  apart_within es number (suc n) apart =
      let others : (x : ℕ) → x < n → f (account_at es (number x)) ≤ f (account_at (set es (number n) None) (number x)) = λ x lt.
      let ne : number x ≡ number n → ⊥ = λ e. (let g = apart x n (omega (arith, lt)) (omega arith) e in omega (arith, lt, g)) in
      let e = ap (λ o. f (its_account o)) (get_or-set_other es (number n) (number x) None None ne) in
      omega (arith, e) in
      let a = below_le (λ x. f (account_at es (number x))) (λ x. f (account_at (set es (number n) None) (number x))) n others in
      let b = apart_within (set es (number n) None) number n (λ x y p q e. apart x y (omega (arith, p)) (omega (arith, q)) e) in
      let c = taken_out es (number n) in
      omega (arith, a, b, c)
