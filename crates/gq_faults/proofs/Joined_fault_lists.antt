-- Lists put one behind the other.
use Rattle.std.proofs.Common.{◌≡◌, List, [], ◌∷◌, ◌++◌, map, refl, ap, sym, ◌∙◌, append_assoc}

pub map-append : {A B : Type 0} (f : A → B) (xs ys : List A) → map f (xs ++ ys) ≡ map f xs ++ map f ys
map-append f [] ys = refl
map-append f (x ∷ xs) ys = ap (λ l. f x ∷ l) (map-append f xs ys)

pub then_more : {A : Type 0} (all old new rest here later : List A) → new ≡ old ++ here → rest ≡ here ++ later → old ++ rest ≡ all → new ++ later ≡ all
then_more all old new rest here later e f h =
    ap (λ l. l ++ later) e ∙ (append_assoc old here later ∙ (ap (λ l. old ++ l) (sym f) ∙ h))
