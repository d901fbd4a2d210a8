-- What holds of each of eight.
use Rattle.std.proofs.Common.{◌≡◌, ℕ, zero, suc, ◌<◌, List, [], ◌∷◌, get_or, refl, arith}

pub of_eight : (P : ℕ → Type 0) → P 0 → P 1 → P 2 → P 3 → P 4 → P 5 → P 6 → P 7 → (k : ℕ) → k < 8 → P k
of_eight P a b c d e f g h zero lt = a
of_eight P a b c d e f g h (suc zero) lt = b
of_eight P a b c d e f g h (suc (suc zero)) lt = c
of_eight P a b c d e f g h (suc (suc (suc zero))) lt = d
of_eight P a b c d e f g h (suc (suc (suc (suc zero)))) lt = e
of_eight P a b c d e f g h (suc (suc (suc (suc (suc zero))))) lt = f
of_eight P a b c d e f g h (suc (suc (suc (suc (suc (suc zero)))))) lt = g
of_eight P a b c d e f g h (suc (suc (suc (suc (suc (suc (suc zero))))))) lt = h
of_eight P a b c d e f g h (suc (suc (suc (suc (suc (suc (suc (suc k)))))))) lt = absurd (omega (arith, lt))

-- no place is counted
abbrev pub no_places : List (ℕ × ℕ)
no_places = (0, 0) ∷ (0, 0) ∷ (0, 0) ∷ (0, 0) ∷ (0, 0) ∷ (0, 0) ∷ (0, 0) ∷ (0, 0) ∷ []

pub zero_at : (k : ℕ) → k < 8 → get_or no_places k (0, 0) ≡ (0, 0)
zero_at = of_eight (λ k. get_or no_places k (0, 0) ≡ (0, 0)) refl refl refl refl refl refl refl refl
