-- Sums of products that are kept as far as they go.
use Rattle.std.proofs.Common.{◌≡◌, ◌≤◌, ℕ, arith, ◌+◌, ◌*◌, List, [], ◌∷◌, min, ap, ◌∙◌, ◌⊎◌, inl, inr}
use Rattle.gq_verify.proofs.Saturated_counts.{times}
use Rattle.gq_budget.specs.internal.Product_sums.{products}

-- a product of two numbers of which both are kept as far as they go
pub product_kept : (m a b : ℕ) → min (min a m * min b m) m ≡ min (a * b) m
product_kept m a b =
    let l : min (min a m * min b m) m ≡ min (a * min b m) m = times m (min b m) a in
    let s : a * min b m ≡ min b m * a = omega arith in
    let r : min (min b m * a) m ≡ min (b * a) m = times m a b in
    let t : b * a ≡ a * b = omega arith in
    l ∙ (ap (λ n. min n m) s ∙ (r ∙ ap (λ n. min n m) t))

-- a sum goes on with one product more
pub products_more : (m sum product next x y all : ℕ) (xs ys xs' ys' : List ℕ) → xs ≡ x ∷ xs' → ys ≡ y ∷ ys' → product ≡ min (x * y) m →
    next ≡ min (sum + product) m → min (sum + products xs ys) m ≡ all → min (next + products xs' ys') m ≡ all
products_more m sum product next x y all xs ys xs' ys' a b p n e =
    let q : products xs ys ≡ x * y + products xs' ys' = ap (λ (l : List ℕ). products l ys) a ∙ ap (λ (l : List ℕ). products (x ∷ xs') l) b in
    omega (arith, p, n, e, q)

-- at the end of one list all is summed
pub products_end : (m sum all : ℕ) (xs ys : List ℕ) → (xs ≡ []) ⊎ (ys ≡ []) → sum ≤ m → min (sum + products xs ys) m ≡ min all m → sum ≡ min all m
products_end m sum all xs ys (inl a) fits e = let q = ap (λ (l : List ℕ). products l ys) a in omega (arith, q, fits, e)
products_end m sum all [] ys (inr b) fits e = omega (arith, fits, e)
products_end m sum all (x ∷ xs) ys (inr b) fits e = let q = ap (λ (l : List ℕ). products (x ∷ xs) l) b in omega (arith, q, fits, e)
