-- Lines of statements that give, piece by piece.
use Rattle.std.proofs.Common.{◌≡◌, ◌∙◌, rules, ℕ, suc, ◌==◌, Bool, true, false, if◌then◌else◌, List, [], ◌∷◌, sym, refl, length}
use Rattle.gq_model.specs.texts.Letters.{onto_first, pieces}
use Rattle.gq_fit.specs.Places.{is_one}

abbrev pub parts : List ℕ → List (List ℕ)
parts line = pieces (λ c. c == 32) line

first_long : (w : List ℕ) (c : ℕ) (ps : List (List ℕ)) → is_one (w ∷ onto_first c ps) ≡ false
first_long w c [] = refl
first_long w c (p ∷ []) = refl
first_long w c (p ∷ q ∷ ps) = refl

one_more : (w : List ℕ) (c : ℕ) (ps : List (List ℕ)) → is_one (w ∷ [] ∷ onto_first c ps) ≡ false
one_more w c [] = refl
one_more w c (p ∷ ps) = refl

two_more : (w : List ℕ) (b : Bool) (c : ℕ) (ps : List (List ℕ)) → is_one (w ∷ [] ∷ (if b then [] ∷ ps else onto_first c ps)) ≡ false
two_more w true c ps = refl
two_more w false c ps = one_more w c ps

past_space : (w rest : List ℕ) → is_one (w ∷ [] ∷ parts rest) ≡ false
past_space w [] = refl
past_space w (c ∷ rest) = two_more w (c == 32) c (parts rest)

by_first : (w : List ℕ) (b : Bool) (c : ℕ) (rest : List ℕ) → is_one (w ∷ (if b then [] ∷ parts rest else onto_first c (parts rest))) ≡ false
by_first w true c rest = past_space w rest
by_first w false c rest = first_long w c (parts rest)

suc_is_not_zero : (n : ℕ) → (suc n == 0) ≡ false
suc_is_not_zero n = search rules

-- a piece is followed by one that is empty just where nothing is left behind it
pub word_and_space : (w rest : List ℕ) → is_one (w ∷ parts rest) ≡ (length rest == 0)
word_and_space w [] = refl
word_and_space w (c ∷ rest) = by_first w (c == 32) c rest ∙ sym (suc_is_not_zero (length rest))
