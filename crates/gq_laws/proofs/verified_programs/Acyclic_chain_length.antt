-- Chains of a relation among numbers below a bound: where none returns to where it starts, each has fewer links than the bound.
use Rattle.std.proofs.Common.{◌≡◌, ℕ, ◌<◌, ◌≤◌, eqb, eqb-true, inl, inr, ◌⊎◌, Bool, true, false, List, [], ◌∷◌, length, refl, sym, subst, arith}
use Rattle.std.specs.List.{list_any, AllByRecursion, IsDistinct}
use Rattle.std.proofs.lemmas.Map.Steps.{length-le_from_distinct_below}
use Rattle.std.proofs.lemmas.Bool.{false≢true, or_cases, or_parts}

apart : (x : ℕ) (ys : List ℕ) → list_any (eqb x) ys ≡ false → AllByRecursion (λ y. eqb x y ≡ false) ys
apart x [] e = tt
apart x (y ∷ ys) e = let n = or_parts (eqb x y) (list_any (eqb x) ys) e in (n.0, apart x ys n.1)

module _ (n : ℕ) (R : ℕ → ℕ → Type 0) where
  -- each is related to the one after it, and the last is below the bound
  abbrev pub Chain : ℕ → List ℕ → Type 0
  Chain x [] = x < n
  Chain x (z ∷ rest) = R x z × Chain z rest

  module _ (below : (x z : ℕ) → R x z → x < n) where
    pub chain_starts : (x : ℕ) (rest : List ℕ) → Chain x rest → x < n
    chain_starts x [] h = h
    chain_starts x (z ∷ rest) h = below x z h.0

    within_by : (q x : ℕ) (rest : List ℕ) → Chain x rest → (eqb q x ≡ true) ⊎ (list_any (eqb q) rest ≡ true) → (list_any (eqb q) rest ≡ true → q < n)
        → q < n
    within_by q x rest h (inl same) go = subst (λ p. p < n) (sym (eqb-true q x same)) (chain_starts x rest h)
    within_by q x rest h (inr there) go = go there

    chain_within : (x : ℕ) (rest : List ℕ) (q : ℕ) → Chain x rest → list_any (eqb q) (x ∷ rest) ≡ true → q < n
    chain_within x [] q h e = within_by q x [] h (or_cases (eqb q x) false e) (λ there. absurd (false≢true there))
    chain_within x (z ∷ rest) q h e = within_by q x (z ∷ rest) h (or_cases (eqb q x) (list_any (eqb q) (z ∷ rest)) e) (chain_within z rest q h.1)

    module _ (no_return : (x : ℕ) (rest : List ℕ) → Chain x rest → list_any (eqb x) rest ≡ true → length rest ≤ n → ⊥) where
      chain_distinct : (x : ℕ) (rest : List ℕ) → Chain x rest → IsDistinct eqb (x ∷ rest)
      unfolding IsDistinct
      chain_distinct x [] h = (tt, tt)
      chain_distinct x (z ∷ rest) h = by (list_any (eqb x) (z ∷ rest)) refl (chain_distinct z rest h.1)
        where
          by : (b : Bool) → list_any (eqb x) (z ∷ rest) ≡ b → IsDistinct eqb (z ∷ rest) → IsDistinct eqb (x ∷ z ∷ rest)
          by true there differ =
              let short = length-le_from_distinct_below (z ∷ rest) n differ (λ q. chain_within z rest q h.1) in
              absurd (no_return x (z ∷ rest) h there short)
          by false none differ = (apart x (z ∷ rest) none, differ)

      pub chain_short : (x : ℕ) (rest : List ℕ) → Chain x rest → length rest < n
      chain_short x rest h =
          let short = length-le_from_distinct_below (x ∷ rest) n (chain_distinct x rest h) (λ q. chain_within x rest q h) in omega arith
