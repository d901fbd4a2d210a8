-- Lines of a text that comes in pieces.
use Rattle.std.specs.Prelude.{◌≡◌, ℕ, ◌+◌, ◌*◌, ◌≤◌, Bool, true, false, List, [], ◌∷◌, ◌++◌, length}
use Rattle.gq_model.specs.machine.Rest.{greatest_turns}

abbrev pub all_but_last : List (List ℕ) → List (List ℕ)
all_but_last [] = []
all_but_last (line ∷ []) = []
all_but_last (line ∷ next ∷ rest) = line ∷ all_but_last (next ∷ rest)

-- of the lines of a piece those that end in it, or all where it is the last piece
abbrev pub lines_read : Bool → List (List ℕ) → List (List ℕ)
lines_read true lines = lines
lines_read false lines = all_but_last lines

-- a piece ends with a line feed
pub record IsEnded (piece : List ℕ) : Type 0 where
  pub prefix : List ℕ
  pub is : piece ≡ prefix ++ 10 ∷ []

-- the sums of a reader stay in their bounds: each line that was read had a byte at least, and each piece one line more
pub record IsReading (total line size : ℕ) (last : List ℕ) : Type 0 where
  pub few : total ≤ greatest_turns
  pub counted : line + 2 * length last ≤ 2 * size
