-- How often a leaf stands in lists of turns, and what turns add to the steps that are counted.
use Rattle.std.proofs.Common.{◌≡◌, ◌≢◌, ◌<◌, ◌≤◌, inl, inr, ℕ, zero, suc, ◌+◌, ◌==◌, cond, ◌++◌, List, [], ◌∷◌, length, refl, ap, sym, ◌∙◌, arith}
use Rattle.std.specs.Prelude.{slice_index, slice_set}
use Rattle.std.proofs.lemmas.Bool.Decides.{eqb_tells}
use Rattle.gq_outcomes.proofs.complete.Two_orders.{index_else}

-- how often a number is there
abbrev pub times_in : ℕ → List ℕ → ℕ
times_in y [] = 0
times_in y (x ∷ l) = cond (x == y) 1 0 + times_in y l

pub times_more : (y : ℕ) (a b : List ℕ) → times_in y (a ++ b) ≡ times_in y a + times_in y b
times_more y [] b = omega arith
times_more y (x ∷ a) b = let e = times_more y a b in omega (arith, e)

-- the sum of the first n
abbrev pub sum_to : ℕ → (ℕ → ℕ) → ℕ
sum_to zero f = 0
sum_to (suc n) f = f n + sum_to n f

pub sum_none : (n : ℕ) → sum_to n (λ i. 0) ≡ 0
sum_none zero = refl
sum_none (suc n) = let e = sum_none n in omega (arith, e)

pub sum_same : (n : ℕ) (f g : ℕ → ℕ) → ((i : ℕ) → g i ≡ f i) → sum_to n g ≡ sum_to n f
sum_same zero f g same = refl
sum_same (suc n) f g same = let here = same n in let rest = sum_same n f g same in omega (arith, here, rest)

sum_out : (n k : ℕ) (f g : ℕ → ℕ) → n ≤ k → ((i : ℕ) → i ≢ k → g i ≡ f i) → sum_to n g ≡ sum_to n f
sum_out zero k f g few same = refl
sum_out (suc n) k f g few same =
    let here = same n (λ e. omega (arith, e, few)) in
    let rest = sum_out n k f g (omega (arith, few)) same in omega (arith, here, rest)

-- where one is more by d, the sum is
pub sum_one : (n k d : ℕ) (f g : ℕ → ℕ) → k < n → ((i : ℕ) → i ≢ k → g i ≡ f i) → g k ≡ f k + d → sum_to n g ≡ sum_to n f + d
sum_one zero k d f g below same more = absurd (omega (arith, below))
sum_one (suc n) k d f g below same more = elim (eqb_tells n k) [
  | inl q ↦
      (let top : g n ≡ f n + d = ap g q.1 ∙ (more ∙ ap (λ k. f k + d) (sym q.1)) in
      let few : n ≤ k = (let e = q.1 in omega (arith, e)) in
      let rest = sum_out n k f g few same in omega (arith, top, rest))
  | inr q ↦
      (let top = same n q.1 in
      let less : k < n = (let ne = q.1 in omega (arith, below, ne)) in
      let rest = sum_one n k d f g less same more in omega (arith, top, rest))
]

index_here : (l : List ℕ) (x a : ℕ) → x < length l → slice_index (slice_set l x a) x ≡ a
index_here [] x a below = absurd (omega (arith, below))
index_here (b ∷ l) zero a below = refl
index_here (b ∷ l) (suc x) a below = index_here l x a (omega (arith, below))

-- where one number is raised by one
pub raised_one : (l : List ℕ) (x y : ℕ) → x < length l → slice_index (slice_set l x (suc (slice_index l x))) y ≡ slice_index l y + cond (x == y) 1 0
raised_one l x y below = elim (eqb_tells x y) [
  | inl q ↦
      (let one : ◌≡◌ {A = ℕ} (cond (x == y) 1 0) 1 = ap (λ b. cond b 1 0) q.0 in
      let at : slice_index (slice_set l x (suc (slice_index l x))) y ≡ suc (slice_index l y)
      = ap (slice_index (slice_set l x (suc (slice_index l x)))) (sym q.1)
      ∙ (index_here l x (suc (slice_index l x)) below ∙ ap (λ x. suc (slice_index l x)) q.1) in omega (arith, one, at))
  | inr q ↦
      (let none : ◌≡◌ {A = ℕ} (cond (x == y) 1 0) 0 = ap (λ b. cond b 1 0) q.0 in
      let at = index_else l x y (suc (slice_index l x)) q.1 in omega (arith, none, at))
]

-- lists of which each number is the same
pub lists_same : (l m : List ℕ) → length l ≡ length m → ((y : ℕ) → slice_index l y ≡ slice_index m y) → l ≡ m
lists_same [] [] count same = refl
lists_same [] (b ∷ m) count same = absurd (omega (arith, count))
lists_same (a ∷ l) [] count same = absurd (omega (arith, count))
lists_same (a ∷ l) (b ∷ m) count same = λ i. same zero i ∷ lists_same l m (omega (arith, count)) (λ y. same (suc y)) i
