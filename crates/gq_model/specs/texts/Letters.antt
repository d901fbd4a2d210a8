-- Bytes of texts: names, numbers, lines and words.
use Rattle.std.specs.Prelude.{ℕ, ◌+◌, ◌-◌, ◌*◌, nat_le, ◌==◌, if◌then◌else◌, Bool, true, false, ◌&&◌, ◌||◌, not, List, [], ◌∷◌, length, Option, Some, None}
use Rattle.gq_model.specs.machine.Lists.{all_of, between}
pub use Rattle.gq_tariff.specs.Byte_tests.{is_digit}

-- a blank is a space or a tab
abbrev pub is_blank : ℕ → Bool
is_blank c = c == 32 || c == 9

-- a to z, A to Z, 0 to 9, the hyphen and the underscore
abbrev pub is_name_byte : ℕ → Bool
is_name_byte c = between 97 122 c || between 65 90 c || is_digit c || c == 45 || c == 95

-- a name has 1 to 16 of these
abbrev pub is_name : List ℕ → Bool
is_name name = between 1 16 (length name) && all_of is_name_byte name

-- a byte of a text to say: printable, and no quotation mark
abbrev pub is_said_byte : ℕ → Bool
is_said_byte c = between 32 126 c && not (c == 34)

-- a text to say has at most 64 of these
abbrev pub is_said : List ℕ → Bool
is_said text = nat_le (length text) 64 && all_of is_said_byte text

-- NUMBERS

-- the number that these digits spell, after n
abbrev pub spelled_on : ℕ → List ℕ → ℕ
spelled_on n [] = n
spelled_on n (c ∷ rest) = spelled_on (10 * n + (c - 48)) rest

-- one to k digits, where they are in range
abbrev pub number_in : ℕ → ℕ → ℕ → List ℕ → Option ℕ
number_in k low high text =
    let n = spelled_on 0 text in if between 1 k (length text) && all_of is_digit text && between low high n then Some n else None

-- no leading zero
abbrev pub is_short : List ℕ → Bool
is_short [] = false
is_short (c ∷ []) = true
is_short (c ∷ d ∷ rest) = not (c == 48)

-- PIECES

-- a byte before the first of these pieces
abbrev pub onto_first : ℕ → List (List ℕ) → List (List ℕ)
onto_first c [] = (c ∷ []) ∷ []
onto_first c (piece ∷ pieces) = (c ∷ piece) ∷ pieces

-- what stands between the bytes that pass the test
abbrev pub pieces : (ℕ → Bool) → List ℕ → List (List ℕ)
pieces test [] = [] ∷ []
pieces test (c ∷ rest) = let after = pieces test rest in if test c then [] ∷ after else onto_first c after

abbrev pub non_empty : List (List ℕ) → List (List ℕ)
non_empty [] = []
non_empty ([] ∷ rest) = non_empty rest
non_empty ((c ∷ piece) ∷ rest) = (c ∷ piece) ∷ non_empty rest

-- words are separated by blanks
abbrev pub words : List ℕ → List (List ℕ)
words text = non_empty (pieces is_blank text)

-- a line without a carriage return at its end
abbrev pub without_return : List ℕ → List ℕ
without_return [] = []
without_return (c ∷ []) = if c == 13 then [] else c ∷ []
without_return (c ∷ d ∷ rest) = c ∷ without_return (d ∷ rest)

-- what follows the last line feed keeps its carriage return
abbrev pub without_returns : List (List ℕ) → List (List ℕ)
without_returns [] = []
without_returns (last ∷ []) = last ∷ []
without_returns (line ∷ next ∷ rest) = without_return line ∷ without_returns (next ∷ rest)

-- what stands before, between and behind the line feeds of a text; never empty
abbrev pub fed_lines : List ℕ → List (List ℕ)
fed_lines text = pieces (λ c. c == 10) text

-- lines end at a line feed
abbrev pub lines : List ℕ → List (List ℕ)
lines text = without_returns (fed_lines text)

-- a line without the blanks at its start
abbrev pub unindented : List ℕ → List ℕ
unindented [] = []
unindented (c ∷ rest) = if is_blank c then unindented rest else c ∷ rest

-- what follows the first word of such a line
abbrev pub past_word : List ℕ → List ℕ
past_word [] = []
past_word (c ∷ rest) = if is_blank c then c ∷ rest else past_word rest
