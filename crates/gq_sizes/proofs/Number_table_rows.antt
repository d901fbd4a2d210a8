-- Rows of numbers, and tables that are made row by row.
use Rattle.std.proofs.Common.{◌≡◌, ℕ, ◌+◌, ◌<◌, ◌≤◌, List, [], ◌∷◌, ◌++◌, length, map, get_or, drop, ap, sym, ◌∙◌, append_assoc, append-nil}
use Rattle.gq_sizes.specs.Saturated_tables.{row}
use Rattle.gq_verify.proofs.List_remainders.{next_left, none_left}

pub row_of : (f : ℕ → ℕ) (a b c d : ℕ) → a ≡ f 0 → b ≡ f 1 → c ≡ f 2 → d ≡ f 3 → (a ∷ b ∷ c ∷ d ∷ []) ≡ row f
row_of f a b c d e g h k = λ i. e i ∷ g i ∷ h i ∷ k i ∷ []

-- with a row more
pub row_more : {A B : Type 0} → (f : A → B) (xs : List A) (i : ℕ) (x : A) (made made' : List B) (r : B) → i < length xs → x ≡ get_or xs i x →
    made' ≡ made ++ r ∷ [] → r ≡ f x → made ++ map f (drop i xs) ≡ map f xs → made' ++ map f (drop (i + 1) xs) ≡ map f xs
row_more f xs i x made made' r lt is put same whole =
    ap (λ l. l ++ map f (drop (i + 1) xs)) put
    ∙ (append_assoc made (r ∷ []) (map f (drop (i + 1) xs))
    ∙ (ap (λ y. made ++ y ∷ map f (drop (i + 1) xs)) same ∙ (ap (λ l. made ++ map f l) (sym (next_left xs i x lt is)) ∙ whole)))

pub row_none : {A B : Type 0} → (f : A → B) (xs : List A) (i : ℕ) (made : List B) → length xs ≤ i → made ++ map f (drop i xs) ≡ map f xs → made ≡ map f xs
row_none f xs i made end whole =
    sym (append-nil made) ∙ (ap (λ l. made ++ map f l) (sym (none_left xs i end)) ∙ whole)
