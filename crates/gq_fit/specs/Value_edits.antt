-- Texts that differ in the values of quantities alone, or in what statements give as well.
use Rattle.std.specs.Prelude.{◌≡◌, ℕ, ◌==◌, Bool, true, false, ◌&&◌, ◌||◌, List, [], ◌∷◌, ◌++◌}
use Rattle.gq_model.specs.machine.Lists.{all_of, between}
use Rattle.gq_model.specs.texts.Letters.{is_digit}
use Rattle.gq_fit.specs.Places.{Lexer, after_bytes, at_start, closes, is_place}

-- VALUES

-- digits, letters, quotes, `_`, `+` and the backslash: what numbers and short texts are made of
abbrev pub is_value_byte : ℕ → Bool
is_value_byte c =
    is_digit c || between 65 90 c || between 97 122 c || c == 34 || c == 39 || c == 95 || c == 43 || c == 92

-- a list from its bracket up to the one that closes it
abbrev pub is_list : List ℕ → Bool
is_list [] = false
is_list (c ∷ rest) = c == 91 && closes at_start rest

-- a list, or a number or a short text
abbrev pub is_value : List ℕ → Bool
is_value bytes = is_list bytes || all_of is_value_byte bytes

-- digits, the suffixes G, M and K, quotes, brackets, commas and blanks: what quantities are made of that are written anew
abbrev pub is_spelled_byte : ℕ → Bool
is_spelled_byte c =
    is_digit c || c == 71 || c == 77 || c == 75 || c == 34 || c == 39 || c == 91 || c == 93 || c == 44 || c == 32

abbrev pub is_spelled : List ℕ → Bool
is_spelled = all_of is_spelled_byte

-- TEXTS

-- what stays, the value after it, and what stands in its place
pub record Change : Type 0 where
  pub kept : List ℕ
  pub old : List ℕ
  pub new : List ℕ

-- a text with its old values, and with the new ones
abbrev pub with_old : List Change → List ℕ → List ℕ
with_old [] last = last
with_old (c ∷ rest) last = c.kept ++ (c.old ++ with_old rest last)

abbrev pub with_new : List Change → List ℕ → List ℕ
with_new [] last = last
with_new (c ∷ rest) last = c.kept ++ (c.new ++ with_new rest last)

abbrev pub is_change : Change → Bool
is_change c = is_value c.old && is_spelled c.new

-- each value stands where one may change, by what a lexer of the old text knows before the first
abbrev pub are_placed : Bool → Lexer → List Change → Bool
are_placed with_gifts l [] = true
are_placed with_gifts l (c ∷ rest) =
    let there = after_bytes l c.kept in is_place with_gifts there && are_placed with_gifts (after_bytes there c.old) rest

-- the second text is the first one with other values in some places, by what a lexer knows before the first text
pub record DiffersFrom (with_gifts : Bool) (l : Lexer) (old new : List ℕ) : Type 0 where
  pub changes : List Change
  pub last : List ℕ
  pub was : old ≡ with_old changes last
  pub is : new ≡ with_new changes last
  pub values : all_of is_change changes ≡ true
  pub places : are_placed with_gifts l changes ≡ true

-- the second text is the first one with other values of quantities, or of what statements give as well: so comments, keys and blanks stay
abbrev pub DiffersInValues : Bool → List ℕ → List ℕ → Type 0
DiffersInValues with_gifts old new = DiffersFrom with_gifts at_start old new

-- such a text was put at the end of another
pub record EndsAs (with_gifts : Bool) (l : Lexer) (old before after : List ℕ) : Type 0 where
  pub text : List ℕ
  pub differs : DiffersFrom with_gifts l old text
  pub put : after ≡ before ++ text
