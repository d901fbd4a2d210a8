-- Where in the text of a scenario quantities stand: what a lexer of TOML knows behind a prefix of the text.
use Rattle.std.specs.Prelude.{ℕ, ◌-◌, ◌==◌, if◌then◌else◌, Bool, true, false, ◌&&◌, ◌||◌, List, [], ◌∷◌, ◌++◌, length, slice_index, codes}
use Rattle.gq_model.specs.machine.Lists.{any_of}
use Rattle.gq_model.specs.machine.Program.{text_eq}
use Rattle.gq_model.specs.texts.Letters.{is_blank, is_name_byte, pieces}
use Rattle.gq_scenario.specs.Fault_words.{key_text}
use Rattle.gq_scenario.specs.declared.key.Key.{Key}
use Rattle.gq_scenario.specs.declared.key.Key.TheVariants.{Ram, Caps, Need, NeedCaps, Upgrades, UpgradeCaps, Quantum}
use Rattle.gq_fit.specs.declared.lexer.Mode.{Mode}
use Rattle.gq_fit.specs.declared.lexer.Mode.TheVariants.{Plain, Value, Comment, Opened, Twice, Short, ShortEscape, Long, LongQuote, LongQuotes}
use Rattle.gq_fit.specs.declared.lexer.Mode.TheVariants.{LongEscape, Joined, Closed}

-- THE LEXER

-- what a lexer knows: where it is, and the line there: outside of strings the key that it read last, in a string its line so far, with a space for blanks
pub record Lexer : Type 0 where
  pub mode : Mode
  pub line : List ℕ

abbrev pub lexer_in : Mode → List ℕ → Lexer
lexer_in mode line = record { mode = mode; line = line }

abbrev pub is_quote : ℕ → Bool
is_quote c = c == 34 || c == 39

-- a blank, or an end of a line
abbrev pub is_space : ℕ → Bool
is_space c = is_blank c || c == 10 || c == 13

abbrev pub ends_in_space : List ℕ → Bool
ends_in_space line = length line == 0 || slice_index line (length line - 1) == 32

-- a line with one more letter: blanks between words are one space, and none at the start
abbrev pub with_letter : List ℕ → ℕ → List ℕ
with_letter line c = if is_space c then (if ends_in_space line then line else line ++ 32 ∷ []) else line ++ c ∷ []

-- a line with a letter that is written as an escape, where that is a line feed or a blank; else what is written, which no key and no word has
abbrev pub with_escape : List ℕ → ℕ → List ℕ
with_escape line c =
    if c == 110 then [] else if c == 116 || c == 114 then with_letter line 32 else line ++ 92 ∷ c ∷ []

-- outside of strings and comments; a blank ends no key
abbrev pub after_plain : List ℕ → ℕ → Lexer
after_plain line c =
    if c == 35 then lexer_in Comment []
    else if is_quote c then lexer_in (Opened c) []
    else if c == 61 then lexer_in Value line
    else if is_blank c then lexer_in Plain line
    else if is_name_byte c then lexer_in Plain (line ++ c ∷ [])
    else lexer_in Plain []

-- in a string of one line between these quotes; where it ends, it may be a key
abbrev pub after_short : ℕ → List ℕ → ℕ → Lexer
after_short quote line c =
    if c == quote then lexer_in Plain line
    else if c == 92 && quote == 34 then lexer_in ShortEscape line
    else lexer_in (Short quote) (with_letter line c)

-- in a string of several lines between these quotes; behind one of its own quotes it is where `quoted` says
abbrev pub after_long : Mode → ℕ → List ℕ → ℕ → Lexer
after_long quoted quote line c =
    if c == quote then lexer_in quoted (line ++ c ∷ [])
    else if c == 92 && quote == 34 then lexer_in LongEscape line
    else if c == 10 then lexer_in (Long quote) []
    else lexer_in (Long quote) (with_letter line c)

-- what a lexer knows behind one byte more
abbrev pub after_mode : Mode → List ℕ → ℕ → Lexer
after_mode Plain line c = after_plain line c
after_mode Value line c = if is_blank c then lexer_in Value line else after_plain [] c
after_mode Comment line c = if c == 10 then lexer_in Plain [] else lexer_in Comment []
after_mode (Opened quote) line c = if c == quote then lexer_in (Twice quote) [] else after_short quote [] c
after_mode (Twice quote) line c = if c == quote then lexer_in (Long quote) [] else after_plain [] c
after_mode (Short quote) line c = after_short quote line c
after_mode ShortEscape line c = lexer_in (Short 34) (with_escape line c)
after_mode (Long quote) line c = after_long (LongQuote quote) quote line c
after_mode (LongQuote quote) line c = after_long (LongQuotes quote) quote line c
after_mode (LongQuotes quote) line c = after_long (Closed quote) quote line c
after_mode LongEscape line c = if is_space c then lexer_in Joined line else lexer_in (Long 34) (with_escape line c)
after_mode Joined line c = if is_space c then lexer_in Joined line else after_long (LongQuote 34) 34 line c
after_mode (Closed quote) line c = if c == quote then lexer_in (Closed quote) [] else after_plain [] c

abbrev pub after_byte : Lexer → ℕ → Lexer
after_byte l c = after_mode l.mode l.line c

abbrev pub after_bytes : Lexer → List ℕ → Lexer
after_bytes l [] = l
after_bytes l (c ∷ rest) = after_bytes (after_byte l c) rest

abbrev pub at_start : Lexer
at_start = lexer_in Plain []

-- LISTS

-- a bracket here is one of the text, in no string and no comment
abbrev pub is_outside : Mode → Bool
is_outside Plain = true
is_outside Value = true
is_outside (Twice quote) = true
is_outside (Closed quote) = true
is_outside _ = false

-- the first closing bracket of these bytes that is in no string and no comment is their last byte
abbrev pub closes : Lexer → List ℕ → Bool
closes l [] = false
closes l (c ∷ rest) = if c == 93 && is_outside l.mode then length rest == 0 else closes (after_byte l c) rest

-- PLACES

-- the keys of quantities
abbrev pub quantity_keys : List Key
quantity_keys = Ram ∷ Caps ∷ Need ∷ NeedCaps ∷ Upgrades ∷ UpgradeCaps ∷ Quantum ∷ []

abbrev pub is_quantity_key : List ℕ → Bool
is_quantity_key word = any_of (λ k. text_eq (key_text k) word) quantity_keys

abbrev pub is_value_of : Mode → List ℕ → Bool
is_value_of Value line = is_quantity_key line
is_value_of _ line = false

-- the value of a quantity stands here
abbrev pub is_quantity_place : Lexer → Bool
is_quantity_place l = is_value_of l.mode l.line

-- of the pieces of a line: a word and a space, and two of these
abbrev pub is_one : List (List ℕ) → Bool
is_one (word ∷ [] ∷ []) = true
is_one _ = false

abbrev pub is_two : List (List ℕ) → Bool
is_two [] = false
is_two (word ∷ rest) = is_one rest

-- the pieces of a line with `open`, a slot and a service, or with `upgrade` and a slot, each with a space after it
abbrev pub gives_next : List (List ℕ) → Bool
gives_next [] = false
gives_next (word ∷ rest) = if text_eq word (codes "open") then is_two rest else text_eq word (codes "upgrade") && is_one rest

-- in a string of one line or of several, or between its joined lines
abbrev pub is_string : Mode → Bool
is_string (Short quote) = true
is_string (Long quote) = true
is_string Joined = true
is_string _ = false

-- what a statement gives stands here
abbrev pub is_given_place : Lexer → Bool
is_given_place l = is_string l.mode && gives_next (pieces (λ c. c == 32) l.line)

-- a value may change here: that of a quantity, or what a statement gives if that is to be fitted
abbrev pub is_place : Bool → Lexer → Bool
is_place with_gifts l = is_quantity_place l || (with_gifts && is_given_place l)
