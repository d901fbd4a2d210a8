-- Lists of turns, listed in parts.
use Rattle.std.proofs.Common.{◌≡◌, ◌∙◌, ℕ, zero, suc, ◌<◌, List, [], ◌∷◌, ◌++◌, length, drop, Some, refl, ap, sym, arith, append_assoc}
use Rattle.std.specs.Prelude.{slice_get}
use Rattle.gq_model.specs.declared.act.Act.TheVariants.{Turns}
use Rattle.gq_model.specs.declared.act.TurnLine.{TurnLine}
use Rattle.gq_model.specs.declared.act.TurnLine.TheVariants.{Gives}
use Rattle.gq_traces.specs.Schedule.{as_lines}

-- what stands at a place, and what stands after it
pub drop_at : {A : Type 0} (xs : List A) (i : ℕ) → i < length xs → (a : A) × (drop i xs ≡ a ∷ drop (suc i) xs)
drop_at [] i less = absurd (omega (arith, less))
drop_at (x ∷ xs) zero less = (x, refl)
drop_at (x ∷ xs) (suc i) less = drop_at xs i (omega (arith, less))

-- what stands at a place is found there
pub found_at : {A : Type 0} (xs : List A) (i : ℕ) → i < length xs → (a : A) × (slice_get xs i ≡ Some a) × (drop i xs ≡ a ∷ drop (suc i) xs)
found_at [] i less = absurd (omega (arith, less))
found_at (x ∷ xs) zero less = (x, refl, refl)
found_at (x ∷ xs) (suc i) less = found_at xs i (omega (arith, less))

pub drop_all : {A : Type 0} (xs : List A) (i : ℕ) → i ≡ length xs → drop i xs ≡ []
drop_all [] zero e = refl
drop_all [] (suc i) e = refl
drop_all (x ∷ xs) zero e = absurd (omega (arith, e))
drop_all (x ∷ xs) (suc i) e = drop_all xs i (omega (arith, e))

pub as_lines_both : (xs ys : List (ℕ × ℕ)) → as_lines (xs ++ ys) ≡ as_lines xs ++ as_lines ys
as_lines_both [] ys = refl
as_lines_both (t ∷ xs) ys = ap (λ l. Gives t.0 (Turns t.1) ∷ l) (as_lines_both xs ys)

-- turns more were listed
pub listed_both : (xs ys : List (ℕ × ℕ)) (old between new : List TurnLine) → between ≡ old ++ as_lines xs → new ≡ between ++ as_lines ys
    → new ≡ old ++ as_lines (xs ++ ys)
listed_both xs ys old between new h k =
    k ∙ (ap (λ l. l ++ as_lines ys) h ∙ (append_assoc old (as_lines xs) (as_lines ys) ∙ ap (λ l. old ++ l) (sym (as_lines_both xs ys))))
