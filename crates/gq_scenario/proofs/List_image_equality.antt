-- Lists and their images; equal texts.
use Rattle.std.specs.Cmp.Lexicographic.{pointwise}
use Rattle.std.proofs.Common.{◌&&◌, eqb, ◌≡◌, ℕ, List, [], ◌∷◌, refl, ap}
use Rattle.gq_model.specs.machine.Program.{text_eq}

pub text_eq-pointwise : (a b : List ℕ) → text_eq a b ≡ pointwise eqb a b
text_eq-pointwise [] [] = refl
text_eq-pointwise [] (y ∷ ys) = refl
text_eq-pointwise (x ∷ xs) [] = refl
text_eq-pointwise (x ∷ xs) (y ∷ ys) = ap (λ t. eqb x y && t) (text_eq-pointwise xs ys)
