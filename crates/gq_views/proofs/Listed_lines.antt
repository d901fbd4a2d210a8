-- Lines and words are read back as they are reported.
use Rattle.std.proofs.Common.{◌≡◌, ◌∙◌, ℕ, zero, suc, ◌<◌, Bool, true, false, List, [], ◌∷◌, ◌++◌, refl, ap, ap₂, arith}
use Rattle.std.specs.Prelude.{not, ◌==◌, if◌then◌else◌, decimal, ◌^◌}
use Rattle.std.proofs.lemmas.Bool.{and_from, and_parts}
use Rattle.std.proofs.lemmas.Bool.Decides.{nat_tests}
use Rattle.gq_model.specs.machine.Lists.{all_of, between}
use Rattle.gq_model.specs.texts.Letters.{is_blank, is_digit, is_name_byte, is_said_byte, lines, non_empty, onto_first, past_word, pieces, unindented}
use Rattle.gq_model.specs.texts.Letters.{without_return, without_returns, words}
use Rattle.gq_views.specs.Listing.{indent, joined}
use Rattle.gq_views.proofs.Listed_numbers.{decimal_is_printed}

pub all_weaker : {A : Type 0} (p q : A → Bool) → ((a : A) → p a ≡ true → q a ≡ true) → (xs : List A) → all_of p xs ≡ true → all_of q xs ≡ true
all_weaker p q by [] h = refl
all_weaker p q by (x ∷ xs) h = let t = and_parts (p x) (all_of p xs) h in and_from (q x) (all_of q xs) (by x t.0) (all_weaker p q by xs t.1)

-- a byte that is printed, and one that is no blank
abbrev pub is_printed : ℕ → Bool
is_printed = between 32 126

abbrev pub is_solid : ℕ → Bool
is_solid = between 33 126

pub solid_printed : (xs : List ℕ) → all_of is_solid xs ≡ true → all_of is_printed xs ≡ true
solid_printed = all_weaker is_solid is_printed (λ c h. grind (arith, nat_tests))

pub decimal_solid : (n : ℕ) → n < 2 ^ 64 → all_of is_solid (decimal n) ≡ true
decimal_solid n small = all_weaker is_digit is_solid (λ c h. grind (arith, nat_tests)) (decimal n) (decimal_is_printed n small).digits

pub said_printed : (xs : List ℕ) → all_of is_said_byte xs ≡ true → all_of is_printed xs ≡ true
said_printed = all_weaker is_said_byte is_printed (λ c h. (and_parts (between 32 126 c) (not (c == 34)) h).0)

pub name_solid : (xs : List ℕ) → all_of is_name_byte xs ≡ true → all_of is_solid xs ≡ true
name_solid = all_weaker is_name_byte is_solid (λ c h. grind (arith, nat_tests))

-- PIECES

-- no byte of these passes the test
abbrev pub none_of : (ℕ → Bool) → List ℕ → Type 0
none_of test [] = Unit {0}
none_of test (c ∷ rest) = (test c ≡ false) × none_of test rest

pub none_from : (p test : ℕ → Bool) → ((c : ℕ) → p c ≡ true → test c ≡ false) → (xs : List ℕ) → all_of p xs ≡ true → none_of test xs
none_from p test by [] h = tt
none_from p test by (x ∷ xs) h = let t = and_parts (p x) (all_of p xs) h in (by x t.0, none_from p test by xs t.1)

pub pieces_prefix : (test : ℕ → Bool) (sep : ℕ) → test sep ≡ true → (l rest : List ℕ) → none_of test l → pieces test (l ++ sep ∷ rest) ≡ l ∷ pieces test rest
pieces_prefix test sep s [] rest h = ap (λ (b : Bool). if b then [] ∷ pieces test rest else onto_first sep (pieces test rest)) s
pieces_prefix test sep s (c ∷ l) rest h =
    ap (λ (b : Bool). if b then [] ∷ pieces test (l ++ sep ∷ rest) else onto_first c (pieces test (l ++ sep ∷ rest))) h.0
    ∙ ap (onto_first c) (pieces_prefix test sep s l rest h.1)

pub pieces_last : (test : ℕ → Bool) (l : List ℕ) → none_of test l → pieces test l ≡ l ∷ []
pieces_last test [] h = refl
pieces_last test (c ∷ l) h =
    ap (λ (b : Bool). if b then [] ∷ pieces test l else onto_first c (pieces test l)) h.0 ∙ ap (onto_first c) (pieces_last test l h.1)

-- LINES

abbrev pub AllPrinted : List (List ℕ) → Type 0
AllPrinted [] = Unit {0}
AllPrinted (l ∷ ls) = (all_of is_printed l ≡ true) × AllPrinted ls

pub both_printed : (ls ms : List (List ℕ)) → AllPrinted ls → AllPrinted ms → AllPrinted (ls ++ ms)
both_printed [] ms h g = g
both_printed (l ∷ ls) ms h g = (h.0, both_printed ls ms h.1 g)

pieces_joined : (ls : List (List ℕ)) → AllPrinted ls → pieces (λ c. c == 10) (joined ls) ≡ ls ++ [] ∷ []
pieces_joined [] h = refl
pieces_joined (l ∷ ls) h =
    pieces_prefix (λ c. c == 10) 10 refl l (joined ls) (none_from is_printed (λ c. c == 10) (λ c p. grind (arith, nat_tests)) l h.0)
    ∙ ap (λ (r : List (List ℕ)). l ∷ r) (pieces_joined ls h.1)

no_return : (l : List ℕ) → none_of (λ c. c == 13) l → without_return l ≡ l
no_return [] h = refl
no_return (c ∷ []) h = ap (λ (b : Bool). if b then [] else c ∷ []) h.0
no_return (c ∷ d ∷ rest) h = ap (λ (r : List ℕ). c ∷ r) (no_return (d ∷ rest) h.1)

no_returns : (ls : List (List ℕ)) → AllPrinted ls → without_returns (ls ++ [] ∷ []) ≡ ls ++ [] ∷ []
no_returns [] h = refl
no_returns (l ∷ []) h = ap (λ (r : List ℕ). r ∷ [] ∷ []) (no_return l (none_from is_printed (λ c. c == 13) (λ c p. grind (arith, nat_tests)) l h.0))
no_returns (l ∷ m ∷ ls) h =
    ap₂ (λ (r : List ℕ) (s : List (List ℕ)). r ∷ s) (no_return l (none_from is_printed (λ c. c == 13) (λ c p. grind (arith, nat_tests)) l h.0))
    (no_returns (m ∷ ls) h.1)

pub lines_joined : (ls : List (List ℕ)) → AllPrinted ls → lines (joined ls) ≡ ls ++ [] ∷ []
lines_joined ls h = ap without_returns (pieces_joined ls h) ∙ no_returns ls h

-- WORDS

pub words_indent : (d : ℕ) (x : List ℕ) → words (indent d ++ x) ≡ words x
words_indent zero x = refl
words_indent (suc d) x = words_indent d x

pub unindented_indent : (d : ℕ) (x : List ℕ) → unindented (indent d ++ x) ≡ unindented x
unindented_indent zero x = refl
unindented_indent (suc d) x = unindented_indent d x

solid_none : (w : List ℕ) → all_of is_solid w ≡ true → none_of is_blank w
solid_none = none_from is_solid is_blank (λ c p. grind (arith, nat_tests))

pub word_first : (c : ℕ) (w x : List ℕ) → all_of is_solid (c ∷ w) ≡ true → words ((c ∷ w) ++ 32 ∷ x) ≡ (c ∷ w) ∷ words x
word_first c w x h = ap non_empty (pieces_prefix is_blank 32 refl (c ∷ w) x (solid_none (c ∷ w) h))

pub word_alone : (c : ℕ) (w : List ℕ) → all_of is_solid (c ∷ w) ≡ true → words (c ∷ w) ≡ (c ∷ w) ∷ []
word_alone c w h = ap non_empty (pieces_last is_blank (c ∷ w) (solid_none (c ∷ w) h))

past_prefix : (w x : List ℕ) → none_of is_blank w → past_word (w ++ 32 ∷ x) ≡ 32 ∷ x
past_prefix [] x h = refl
past_prefix (c ∷ w) x h = ap (λ (b : Bool). if b then c ∷ w ++ 32 ∷ x else past_word (w ++ 32 ∷ x)) h.0 ∙ past_prefix w x h.1

past_last : (w : List ℕ) → none_of is_blank w → past_word w ≡ []
past_last [] h = refl
past_last (c ∷ w) h = ap (λ (b : Bool). if b then c ∷ w else past_word w) h.0 ∙ past_last w h.1

-- a word begins with no blank
starts : (c : ℕ) (x : List ℕ) → is_blank c ≡ false → unindented (c ∷ x) ≡ c ∷ x
starts c x h = ap (λ (b : Bool). if b then unindented x else c ∷ x) h

pub after_word : (d c : ℕ) (w x : List ℕ) → all_of is_solid (c ∷ w) ≡ true → past_word (unindented (indent d ++ ((c ∷ w) ++ 32 ∷ x))) ≡ 32 ∷ x
after_word d c w x h =
    let none = solid_none (c ∷ w) h in
    ap past_word (unindented_indent d ((c ∷ w) ++ 32 ∷ x) ∙ starts c (w ++ 32 ∷ x) none.0) ∙ past_prefix (c ∷ w) x none

pub after_alone : (d c : ℕ) (w : List ℕ) → all_of is_solid (c ∷ w) ≡ true → past_word (unindented (indent d ++ c ∷ w)) ≡ []
after_alone d c w h =
    let none = solid_none (c ∷ w) h in ap past_word (unindented_indent d (c ∷ w) ∙ starts c w none.0) ∙ past_last (c ∷ w) none
