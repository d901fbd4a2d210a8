-- The lowest free place.
use Rattle.std.proofs.Common.{◌≡◌, ℕ, zero, suc, ◌+◌, ◌<◌, ◌≤◌, inl, inr, [], ◌∷◌, length, set, get_or, Option, Some, None, IsTrue, is_some, false, refl, sym}
use Rattle.std.proofs.Common.{ap, ◌∙◌, arith}
use Rattle.std.proofs.lemmas.Bool.{cases_lt, cases_eq}
use Rattle.std.proofs.lemmas.List.{get_or-set_same, get_or-set_other}
use Rattle.gq_region.specs.declared.map.Range.{Range}
use Rattle.gq_region.specs.Region_places.{Places, IsTaken, lowest_free}

no_taken : (o : Option Range) → o ≡ None → IsTrue (is_some o) → ⊥
no_taken None e h = cc
no_taken (Some r) e h = cc

-- it is the one that is free where all below are taken
pub lowest_is : (ps : Places) (k : ℕ) → k < length ps → get_or ps k None ≡ None → ((j : ℕ) → j < k → IsTaken ps j) → lowest_free ps ≡ k
lowest_is [] k h free below = absurd (omega arith)
lowest_is (None ∷ ps) zero h free below = refl
lowest_is (None ∷ ps) (suc k) h free below = absurd (no_taken None refl (below 0 (omega arith)))
lowest_is (Some r ∷ ps) zero h free below = cc
lowest_is (Some r ∷ ps) (suc k) h free below = ap suc (lowest_is ps k (omega arith) free (λ j lt. below (suc j) (omega arith)))

-- where all are taken there is none
pub lowest_none : (ps : Places) → ((j : ℕ) → j < length ps → IsTaken ps j) → lowest_free ps ≡ length ps
lowest_none [] all = refl
lowest_none (None ∷ ps) all = absurd (no_taken None refl (all 0 (omega arith)))
lowest_none (Some r ∷ ps) all = ap suc (lowest_none ps (λ j lt. all (suc j) (omega arith)))

-- all below it are taken
pub below_lowest : (ps : Places) (j : ℕ) → j < lowest_free ps → IsTaken ps j
below_lowest [] j h = absurd (omega arith)
below_lowest (None ∷ ps) j h = absurd (omega arith)
below_lowest (Some r ∷ ps) zero h = refl
below_lowest (Some r ∷ ps) (suc j) h = below_lowest ps j (omega arith)

pub lowest_within : (ps : Places) → lowest_free ps ≤ length ps
lowest_within [] = omega arith
lowest_within (None ∷ ps) = omega arith
lowest_within (Some r ∷ ps) = omega (arith, lowest_within ps)

past : (ps : Places) (k : ℕ) → length ps ≤ k → get_or ps k None ≡ None
past [] k h = refl
past (x ∷ ps) zero h = absurd (omega arith)
past (x ∷ ps) (suc k) h = past ps k (omega arith)

-- a place that is taken is one
pub taken_there : (ps : Places) (k : ℕ) → IsTaken ps k → k < length ps
taken_there ps k h = elim (cases_lt k (length ps)) [ inl lt ↦ lt | inr ge ↦ absurd (no_taken (get_or ps k None) (past ps k ge) h) ]

-- one more is taken
pub taken_more : (ps : Places) (k : ℕ) (r : Range) → k < length ps → ((j : ℕ) → j < k → IsTaken ps j) → (j : ℕ) → j < k + 1 → IsTaken (set ps k (Some r)) j
taken_more ps k r lt below j h = elim (cases_eq j k) [
  | inl e ↦ ap is_some (ap (λ (i : ℕ). get_or (set ps k (Some r)) i None) e ∙ get_or-set_same ps k (Some r) None lt)
  | inr other ↦ ap is_some (get_or-set_other ps k j (Some r) None other) ∙ below j (omega arith)
]

-- one is free again
pub taken_below : (ps : Places) (k n : ℕ) → n ≤ k → ((j : ℕ) → j < n → IsTaken ps j) → (j : ℕ) → j < n → IsTaken (set ps k None) j
taken_below ps k n le below j h = ap is_some (get_or-set_other ps k j None None (λ (e : j ≡ k). omega arith)) ∙ below j h

-- what an index reads
pub reads : (ps : Places) (i : ℕ) (x : Option Range) → i < length ps → x ≡ get_or ps i x → get_or ps i None ≡ x
reads [] i x h e = absurd (omega arith)
reads (y ∷ ys) zero x h e = sym e
reads (y ∷ ys) (suc i) x h e = reads ys i x (omega arith) e

pub is_free : (o : Option Range) → is_some o ≡ false → o ≡ None
is_free None e = refl
is_free (Some r) e = cc
