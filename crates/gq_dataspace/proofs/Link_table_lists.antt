-- The lists that a table of links keeps, and what a link that is written does to them.
use Rattle.std.proofs.Common.{◌≡◌, ℕ, zero, suc, ◌+◌, ◌*◌, ◌/◌, ◌%◌, ◌<◌, inl, inr, List, [], ◌∷◌, ◌++◌, length, set, get_or, refl, sym, ap, ◌∙◌, arith}
use Rattle.std.proofs.Common.{length-append}
use Rattle.std.proofs.lemmas.Bool.{cases_lt}
use Rattle.std.proofs.lemmas.Bool.Decides.{nat_tests}
use Rattle.std.proofs.lemmas.List.{get_or-set_same, get_or-set_other, get_or_at, get_or_append_left}
use Rattle.gq_dataspace.specs.internal.List_trees.{parent_at}
use Rattle.gq_dataspace.specs.internal.Link_table.{link_at, frames_in}

-- ---- one list
pub length-frames_in : (links : List ℕ) (r k : ℕ) → length (frames_in links r k) ≡ k
length-frames_in links r zero = refl
length-frames_in links r (suc k) = omega (
  arith,
  length-append (frames_in links r k) (get_or links (link_at (frames_in links r k) r k) 0 ∷ []),
  length-frames_in links r k,
)

-- each frame is at its link
pub frame_is : (links : List ℕ) (r k i : ℕ) → i < k → get_or (frames_in links r k) i 0 ≡ get_or links (link_at (frames_in links r i) r i) 0
frame_is links r zero i h = absurd (omega arith)
frame_is links r (suc k) i h = let xs = frames_in links r k in let x : ℕ = get_or links (link_at xs r k) 0 in elim (cases_lt i k) [
  | inl lt ↦ get_or_append_left xs (x ∷ []) 0 i (omega (arith, length-frames_in links r k)) ∙ frame_is links r k i lt
  | inr ge ↦ let e : i ≡ k = omega arith in rw e (get_or_at xs x [] 0 k (length-frames_in links r k))
]

-- the links of a list are those of its prefixes
pub parent_is : (links : List ℕ) (r k i : ℕ) → i < k → parent_at (frames_in links r k) r i ≡ parent_at (frames_in links r i) r i
unfolding parent_at
parent_is links r k i h = elim (cases_lt i 16) [
  | inl lt ↦ grind (arith, nat_tests)
  | inr ge ↦ let q : i / 16 < i = omega arith in
      let e : get_or (frames_in links r k) (i / 16) 0 ≡ get_or (frames_in links r i) (i / 16) 0 = frame_is links r k (i / 16) (omega arith)
      ∙ sym (frame_is links r i (i / 16) q) in
      grind (arith, nat_tests)
]

pub frame_at_link : (links : List ℕ) (r k i : ℕ) → i < k → get_or (frames_in links r k) i 0 ≡ get_or links (link_at (frames_in links r k) r i) 0
frame_at_link links r k i h = frame_is links r k i h ∙ ap (λ (p : ℕ). get_or links (16 * p + i % 16) 0) (sym (parent_is links r k i h))

-- a link is written that is none of the list's
pub frames_kept : (links : List ℕ) (r k p x : ℕ) → ((i : ℕ) → i < k → link_at (frames_in links r k) r i ≡ p → ⊥)
    → frames_in (set links p x) r k ≡ frames_in links r k
frames_kept links r zero p x other = refl
frames_kept links r (suc k) p x other =
    let xs = frames_in links r k in
    let up : (i : ℕ) → i < suc k → link_at (frames_in links r (suc k)) r i ≡ link_at (frames_in links r i) r i =
    λ i h. ap (λ (q : ℕ). 16 * q + i % 16) (parent_is links r (suc k) i h) in
    let down : (i : ℕ) → i < k → link_at xs r i ≡ link_at (frames_in links r i) r i = λ i h. ap (λ (q : ℕ). 16 * q + i % 16) (parent_is links r k i h) in
    let ih : frames_in (set links p x) r k ≡ xs = frames_kept links r k p x (λ i h e. other i (omega arith) (up i (omega arith) ∙ sym (down i h) ∙ e)) in
    let here : link_at xs r k ≡ p → ⊥ = λ e. other k (omega arith) (up k (omega arith) ∙ e) in
    let same : get_or (set links p x) (link_at xs r k) 0 ≡ get_or links (link_at xs r k) 0 = get_or-set_other links p (link_at xs r k) x 0 here in
    rw ih (ap (λ (y : ℕ). xs ++ y ∷ []) same)

-- the next link of the list is written
pub frames_more : (links : List ℕ) (r k x : ℕ) → link_at (frames_in links r k) r k < length links
    → ((i : ℕ) → i < k → link_at (frames_in links r k) r i ≡ link_at (frames_in links r k) r k → ⊥)
    → frames_in (set links (link_at (frames_in links r k) r k) x) r (suc k) ≡ frames_in links r k ++ x ∷ []
frames_more links r k x within other =
    let xs = frames_in links r k in let p = link_at xs r k in
    let kept : frames_in (set links p x) r k ≡ xs = frames_kept links r k p x other in
    rw kept (ap (λ (y : ℕ). xs ++ y ∷ []) (get_or-set_same links p x 0 within))
