-- Lists that are made of two others, item by item.
use Rattle.std.proofs.Common.{◌≡◌, ℕ, Bool, List, [], ◌∷◌, ◌++◌, map, Vec, Global, refl, ap, sym, ◌∙◌, ◌⊎◌, inl, inr, append_assoc, append-nil}
use Rattle.gq_budget.specs.Leaf_section_counts.{Counted}
use Rattle.gq_budget.specs.internal.Run_rounds.{all_asks, budgets_by}
use Rattle.gq_budget.specs.internal.Product_sums.{products}
use Rattle.gq_verify.specs.Saturated_numbers.{saturated}

-- one item more
pub one_more : {A : Type 0} (made made' rest rest' all : List A) (x x' : A) → made' ≡ made ++ x ∷ [] → x ≡ x' → rest ≡ x' ∷ rest' → made ++ rest ≡ all →
    made' ++ rest' ≡ all
one_more made made' rest rest' all x x' m same r e =
    ap (λ l. l ++ rest') m ∙ (append_assoc made (x ∷ []) rest' ∙ (ap (λ y. made ++ y ∷ rest') same ∙ (ap (λ l. made ++ l) (sym r) ∙ e)))

-- none is left
pub none_left : {A : Type 0} (made rest all : List A) → rest ≡ [] → made ++ rest ≡ all → made ≡ all
none_left made rest all r e = sym (append-nil made) ∙ (ap (λ l. made ++ l) (sym r) ∙ e)

pub asks_none : (leaves : List Counted) (n : ℕ) (xs : List Counted) (ys : List (Vec Bool Global)) → (xs ≡ []) ⊎ (ys ≡ [])
    → all_asks leaves n xs (map (λ v. v.items) ys) ≡ []
asks_none leaves n [] ys h = refl
asks_none leaves n (x ∷ xs) [] h = refl
asks_none leaves n (x ∷ xs) (y ∷ ys) (inl e) = cc
asks_none leaves n (x ∷ xs) (y ∷ ys) (inr e) = cc

pub budgets_none : (xs : List Counted) (ys : List (List ℕ)) → (xs ≡ []) ⊎ (ys ≡ []) → budgets_by xs ys ≡ []
budgets_none [] ys h = refl
budgets_none (x ∷ xs) [] h = refl
budgets_none (x ∷ xs) (y ∷ ys) (inl e) = cc
budgets_none (x ∷ xs) (y ∷ ys) (inr e) = cc

pub budgets_first : (xs xs' : List Counted) (ys ys' : List (List ℕ)) (x : Counted) (y : List ℕ) → xs ≡ x ∷ xs' → ys ≡ y ∷ ys' →
    budgets_by xs ys ≡ saturated (products x.costs y) ∷ budgets_by xs' ys'
budgets_first xs xs' ys ys' x y e f = ap (λ l. budgets_by l ys) e ∙ ap (λ l. budgets_by (x ∷ xs') l) f
