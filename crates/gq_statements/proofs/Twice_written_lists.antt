-- Lists that are written twice.
use Rattle.std.proofs.Common.{◌≡◌, ◌≢◌, ℕ, zero, suc, List, [], ◌∷◌, refl, ap}
use Rattle.std.specs.Prelude.{slice_set}

pub set_again : {A : Type 0} (items : List A) (i : ℕ) (a b : A) → slice_set (slice_set items i a) i b ≡ slice_set items i b
set_again [] i a b = refl
set_again (c ∷ rest) zero a b = refl
set_again (c ∷ rest) (suc i) a b = ap (λ l. c ∷ l) (set_again rest i a b)

pub set_swap : {A : Type 0} (items : List A) (i j : ℕ) (a b : A) → i ≢ j → slice_set (slice_set items i a) j b ≡ slice_set (slice_set items j b) i a
set_swap [] i j a b ne = refl
set_swap (c ∷ rest) zero zero a b ne = absurd (ne refl)
set_swap (c ∷ rest) zero (suc j) a b ne = refl
set_swap (c ∷ rest) (suc i) zero a b ne = refl
set_swap (c ∷ rest) (suc i) (suc j) a b ne = ap (λ l. c ∷ l) (set_swap rest i j a b (λ e. ne (ap suc e)))
