-- Texts, line by line and piece by piece.
use Rattle.std.specs.Prelude.{ℕ, ◌==◌, ◌+◌, List, [], length, Option, Some, None}
use Rattle.gq_model.specs.texts.Letters.{pieces, lines}

-- the pieces of what follows a separator, none where there is no separator
abbrev pub pieces_left : ℕ → Option (List ℕ) → List (List ℕ)
pieces_left separator None = []
pieces_left separator (Some rest) = pieces (λ c. c == separator) rest

-- the lines of what follows a line feed, none where there is no line feed
abbrev pub lines_left : Option (List ℕ) → List (List ℕ)
lines_left None = []
lines_left (Some rest) = lines rest

-- more than the number of bytes that are left, 0 at the end
abbrev pub length_left : Option (List ℕ) → ℕ
length_left None = 0
length_left (Some rest) = length rest + 1
