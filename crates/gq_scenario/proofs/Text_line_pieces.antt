-- Pieces and lines of a text, one after another.
use Rattle.std.proofs.Common.{◌≡◌, ◌==◌, ℕ, zero, suc, ◌<◌, ◌≤◌, ◌≢◌, Bool, true, false, cond, List, [], ◌∷◌, length, get_or, take, drop, Option}
use Rattle.std.proofs.Common.{Some, None, is_some, option_map, refl, ap, ◌∙◌, arith}
use Rattle.std.proofs.lemmas.Bool.Decides.{nat_tests}
use Rattle.gq_model.specs.texts.Letters.{onto_first, pieces, without_return, without_returns, lines}
use Rattle.gq_scenario.specs.Text_pieces.{pieces_left, lines_left}

cond_true : {A : Type 0} (b : Bool) (x y : A) → b ≡ true → cond b x y ≡ x
cond_true true x y e = refl
cond_true false x y e = cc

cond_false : {A : Type 0} (b : Bool) (x y : A) → b ≡ false → cond b x y ≡ y
cond_false true x y e = cc
cond_false false x y e = refl

-- the first separator stands there
pub pieces_first : (s : ℕ) (text : List ℕ) (k : ℕ) → k < length text → ((j : ℕ) → j < k → get_or text j 0 ≢ s) → get_or text k 0 ≡ s
    → pieces (λ c. c == s) text ≡ take k text ∷ pieces (λ c. c == s) (drop (suc k) text)
pieces_first s [] k less none e = absurd (omega (arith, less))
pieces_first s (c ∷ rest) zero less none e =
    let same : (c == s) ≡ true = grind (arith, nat_tests, e) in
    cond_true (c == s) ([] ∷ pieces (λ c. c == s) rest) (onto_first c (pieces (λ c. c == s) rest)) same
pieces_first s (c ∷ rest) (suc k) less none e =
    let first : c ≢ s = none 0 (omega arith) in
    let other : (c == s) ≡ false = grind (arith, nat_tests) in
    let later = pieces_first s rest k (omega (arith, less)) (λ j h. none (suc j) (omega (arith, h))) e in
    cond_false (c == s) ([] ∷ pieces (λ c. c == s) rest) (onto_first c (pieces (λ c. c == s) rest)) other ∙ ap (onto_first c) later

-- there is no separator
pub pieces_only : (s : ℕ) (text : List ℕ) → ((j : ℕ) → j < length text → get_or text j 0 ≢ s) → pieces (λ c. c == s) text ≡ text ∷ []
pieces_only s [] none = refl
pieces_only s (c ∷ rest) none =
    let first : c ≢ s = none 0 (omega arith) in
    let other : (c == s) ≡ false = grind (arith, nat_tests) in
    let later = pieces_only s rest (λ j h. none (suc j) (omega (arith, h))) in
    cond_false (c == s) ([] ∷ pieces (λ c. c == s) rest) (onto_first c (pieces (λ c. c == s) rest)) other ∙ ap (onto_first c) later

-- LINES

push_cond : (b : Bool) (c : ℕ) (xs ys : List ℕ) → c ∷ cond b xs ys ≡ cond b (c ∷ xs) (c ∷ ys)
push_cond true c xs ys = refl
push_cond false c xs ys = refl

-- by the last byte
pub without_return-last : (line : List ℕ) (k : ℕ) → length line ≡ suc k → without_return line ≡ cond (get_or line k 0 == 13) (take k line) line
without_return-last [] k h = absurd (omega arith)
without_return-last (c ∷ []) zero h = refl
without_return-last (c ∷ []) (suc k) h = absurd (omega arith)
without_return-last (c ∷ d ∷ rest) zero h = absurd (omega arith)
without_return-last (c ∷ d ∷ rest) (suc k) h =
    ap (λ t. c ∷ t) (without_return-last (d ∷ rest) k (omega arith)) ∙ push_cond (get_or (d ∷ rest) k 0 == 13) c (take k (d ∷ rest)) (d ∷ rest)

returns_before : (line : List ℕ) (c : ℕ) (b : Bool) (after : List (List ℕ))
    → without_returns (line ∷ cond b ([] ∷ after) (onto_first c after)) ≡ without_return line ∷ without_returns (cond b ([] ∷ after) (onto_first c after))
returns_before line c true after = refl
returns_before line c false [] = refl
returns_before line c false (piece ∷ after) = refl

pub without_returns-pieces : (line : List ℕ) (s : ℕ) (rest : List ℕ)
    → without_returns (line ∷ pieces (λ c. c == s) rest) ≡ without_return line ∷ without_returns (pieces (λ c. c == s) rest)
without_returns-pieces line s [] = refl
without_returns-pieces line s (c ∷ rest) = returns_before line c (c == s) (pieces (λ c. c == s) rest)

pub without_return-empty : (line : List ℕ) → length line ≤ 0 → without_return line ≡ line
without_return-empty [] h = refl
without_return-empty (c ∷ rest) h = absurd (omega arith)

-- the first line, where there is a line feed
pub lines-piece : (text line : List ℕ) (rest : Option (List ℕ)) → pieces (λ c. c == 10) text ≡ line ∷ pieces_left 10 rest → is_some rest ≡ true
    → lines text ≡ without_return line ∷ lines_left rest
lines-piece text line None e h = cc
lines-piece text line (Some rest) e h = rw e (without_returns-pieces line 10 rest)

pub is_some-map : {A B : Type 0} (f : A → B) (o : Option A) → is_some o ≡ true → is_some (option_map f o) ≡ true
is_some-map f None h = cc
is_some-map f (Some a) h = refl
