-- What stands at the start of a text: its first word, its first line.
use Rattle.std.specs.Prelude.{◌≡◌, ℕ, ◌==◌, if◌then◌else◌, List, [], ◌∷◌, Option, Some, None}
use Rattle.gq_model.specs.texts.Letters.{is_blank, words, unindented, past_word, without_return}

-- up to the first blank
abbrev pub prefix_word : List ℕ → List ℕ
prefix_word [] = []
prefix_word (c ∷ rest) = if is_blank c then [] else c ∷ prefix_word rest

-- a word is the first of a text, and these bytes follow it
pub record NextWord (text word after : List ℕ) : Type 0 where
  pub all : words text ≡ word ∷ words after
  pub rest : after ≡ past_word (unindented text)

-- up to the first line feed
abbrev pub prefix_line : List ℕ → List ℕ
prefix_line [] = []
prefix_line (c ∷ rest) = if c == 10 then [] else c ∷ prefix_line rest

-- what follows it, if there is one
abbrev pub past_feed : List ℕ → Option (List ℕ)
past_feed [] = None
past_feed (c ∷ rest) = if c == 10 then Some rest else past_feed rest

-- a line before what follows its line feed, if there is one; with a line feed it has no carriage return at its end
abbrev pub line_before : List ℕ → Option (List ℕ) → List ℕ
line_before prefix None = prefix
line_before prefix (Some text) = without_return prefix

-- the first line
abbrev pub line_at : List ℕ → List ℕ
line_at text = line_before (prefix_line text) (past_feed text)

-- the first line of a text that goes on after it
abbrev pub fed_line : List ℕ → List ℕ
fed_line text = without_return (prefix_line text)
