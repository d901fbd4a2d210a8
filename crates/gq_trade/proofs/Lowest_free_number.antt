-- The lowest free place.
use Rattle.std.proofs.Common.{◌≡◌, ℕ, zero, suc, ◌+◌, ◌<◌, ◌≤◌, inl, inr, List, [], ◌∷◌, ◌++◌, length, set, get_or, Option, Some, None, IsTrue, is_some}
use Rattle.std.proofs.Common.{true, false, refl, sym, ap, ◌∙◌, arith}
use Rattle.std.proofs.lemmas.Bool.{cases_lt}
use Rattle.std.proofs.lemmas.List.{get_or-set_other}
use Rattle.gq_trade.specs.Numbers.{added, free_number, IsTaken}

no_taken : {A : Type 0} (o : Option A) → o ≡ None → IsTrue (is_some o) → ⊥
no_taken None e h = cc
no_taken (Some r) e h = cc

none_taken : false ≡ true → ⊥
none_taken h = cc

-- it is the one that is free where all below are taken
pub lowest_is : {A : Type 0} (ps : List (Option A)) (k : ℕ) → k < length ps → get_or ps k None ≡ None → ((j : ℕ) → j < k → IsTaken ps j) → free_number ps ≡ k
lowest_is [] k h free below = absurd (omega arith)
lowest_is (None ∷ ps) zero h free below = refl
lowest_is (None ∷ ps) (suc k) h free below = absurd (none_taken (below 0 (omega arith)))
lowest_is (Some r ∷ ps) zero h free below = cc
lowest_is (Some r ∷ ps) (suc k) h free below = ap suc (lowest_is ps k (omega arith) free (λ j lt. below (suc j) (omega arith)))

-- where all are taken it is behind them
pub lowest_none : {A : Type 0} (ps : List (Option A)) → ((j : ℕ) → j < length ps → IsTaken ps j) → free_number ps ≡ length ps
lowest_none [] all = refl
lowest_none (None ∷ ps) all = absurd (none_taken (all 0 (omega arith)))
lowest_none (Some r ∷ ps) all = ap suc (lowest_none ps (λ j lt. all (suc j) (omega arith)))

-- all below it are taken
pub below_lowest : {A : Type 0} (ps : List (Option A)) (j : ℕ) → j < free_number ps → IsTaken ps j
below_lowest [] j h = absurd (omega arith)
below_lowest (None ∷ ps) j h = absurd (omega arith)
below_lowest (Some r ∷ ps) zero h = refl
below_lowest (Some r ∷ ps) (suc j) h = below_lowest ps j (omega arith)

pub lowest_within : {A : Type 0} (ps : List (Option A)) → free_number ps ≤ length ps
lowest_within [] = omega arith
lowest_within (None ∷ ps) = omega arith
lowest_within (Some r ∷ ps) = omega (arith, lowest_within ps)

past : {A : Type 0} (ps : List (Option A)) (k : ℕ) → length ps ≤ k → get_or ps k None ≡ None
past [] k h = refl
past (x ∷ ps) zero h = absurd (omega arith)
past (x ∷ ps) (suc k) h = past ps k (omega arith)

-- a place that is taken is one
pub taken_there : {A : Type 0} (ps : List (Option A)) (k : ℕ) → IsTaken ps k → k < length ps
taken_there ps k h = elim (cases_lt k (length ps)) [ inl lt ↦ lt | inr ge ↦ absurd (no_taken (get_or ps k None) (past ps k ge) h) ]

-- at the end, and at a free place
pub added_end : {A : Type 0} (s : A) (ps : List (Option A)) → free_number ps ≡ length ps → added s ps ≡ ps ++ Some s ∷ []
added_end s [] e = refl
added_end s (None ∷ ps) e = absurd (omega (arith, e))
added_end s (Some t ∷ ps) e = ap (λ qs. Some t ∷ qs) (added_end s ps (omega (arith, e)))

pub added_at : {A : Type 0} (s : A) (ps : List (Option A)) → free_number ps < length ps → added s ps ≡ set ps (free_number ps) (Some s)
added_at s [] h = absurd (omega (arith, h))
added_at s (None ∷ ps) h = refl
added_at s (Some t ∷ ps) h = ap (λ qs. Some t ∷ qs) (added_at s ps (omega (arith, h)))

-- one more is taken
pub added_taken : {A : Type 0} (s : A) (ps : List (Option A)) (j : ℕ) → j < free_number ps + 1 → IsTaken (added s ps) j
added_taken s [] zero h = refl
added_taken s [] (suc j) h = absurd (omega (arith, h))
added_taken s (None ∷ ps) zero h = refl
added_taken s (None ∷ ps) (suc j) h = absurd (omega (arith, h))
added_taken s (Some t ∷ ps) zero h = refl
added_taken s (Some t ∷ ps) (suc j) h = added_taken s ps j (omega (arith, h))

pub added_length : {A : Type 0} (s : A) (ps : List (Option A)) (n : ℕ) → length ps ≤ n → free_number ps < n → length (added s ps) ≤ n
added_length s [] n h f = omega (arith, f)
added_length s (None ∷ ps) n h f = omega (arith, h)
added_length s (Some t ∷ ps) zero h f = absurd (omega (arith, f))
added_length s (Some t ∷ ps) (suc n) h f = omega (arith, added_length s ps n (omega (arith, h)) (omega (arith, f)))

pub added_some : {A : Type 0} (s : A) (ps : List (Option A)) → free_number ps + 1 ≤ length (added s ps)
added_some s [] = omega arith
added_some s (None ∷ ps) = omega arith
added_some s (Some t ∷ ps) = omega (arith, added_some s ps)

-- one is free again
pub taken_below : {A : Type 0} (ps : List (Option A)) (k n : ℕ) → n ≤ k → ((j : ℕ) → j < n → IsTaken ps j) → (j : ℕ) → j < n → IsTaken (set ps k None) j
taken_below ps k n le below j h = ap is_some (get_or-set_other ps k j None None (λ (e : j ≡ k). omega arith)) ∙ below j h

pub taken_set : {A : Type 0} (ps : List (Option A)) (k : ℕ) (s : A) (j : ℕ) → IsTaken ps j → IsTaken (set ps k (Some s)) j
taken_set [] k s j h = h
taken_set (x ∷ ps) zero s zero h = refl
taken_set (x ∷ ps) zero s (suc j) h = h
taken_set (x ∷ ps) (suc k) s zero h = h
taken_set (x ∷ ps) (suc k) s (suc j) h = taken_set ps k s j h

-- what an index reads
pub reads : {A : Type 0} (ps : List (Option A)) (i : ℕ) (x : Option A) → i < length ps → x ≡ get_or ps i x → get_or ps i None ≡ x
reads [] i x h e = absurd (omega arith)
reads (y ∷ ys) zero x h e = sym e
reads (y ∷ ys) (suc i) x h e = reads ys i x (omega arith) e

pub is_free : {A : Type 0} (o : Option A) → is_some o ≡ false → o ≡ None
is_free None e = refl
is_free (Some r) e = cc
