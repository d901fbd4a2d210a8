-- The stored form of a run: the scenario, a line that is `%%`, and the turns.
use Rattle.std.specs.Prelude.{◌≡◌, ℕ, if◌then◌else◌, Bool, List, [], ◌∷◌, ◌++◌, codes, Option, Some, None}
use Rattle.gq_model.specs.machine.Program.{text_eq}
use Rattle.gq_model.specs.texts.Letters.{fed_lines, without_return}

-- the line between scenario and turns is `%%`, a carriage return after it aside
abbrev pub is_border : List ℕ → Bool
is_border line = text_eq (without_return line) (codes "%%")

-- a text of these lines, with the line feed before it; nothing where there are no lines
abbrev pub fed : List (List ℕ) → List ℕ → List ℕ
fed [] text = []
fed (line ∷ rest) text = 10 ∷ text

-- lines joined by line feeds: the text that they are the lines of
abbrev pub joined : List (List ℕ) → List ℕ
joined [] = []
joined (line ∷ rest) = line ++ fed rest (joined rest)

-- the scenario and the turns among these lines: the border goes to neither
abbrev pub parted_lines : List (List ℕ) → List ℕ × List ℕ
parted_lines [] = ([], [])
parted_lines (line ∷ rest) =
    let after = parted_lines rest in if is_border line then ([], joined rest) else (line ++ fed rest after.0, after.1)

-- the scenario and the turns in a text: without a border all is scenario
abbrev pub parted : List ℕ → List ℕ × List ℕ
parted text = parted_lines (fed_lines text)

-- the first line of a text, and the text after it, if it has a line feed
abbrev pub IsFirstLine : List ℕ → List ℕ → Option (List ℕ) → Type 0
IsFirstLine text line None = (text ≡ line) × (fed_lines text ≡ line ∷ [])
IsFirstLine text line (Some rest) = (text ≡ line ++ 10 ∷ rest) × (fed_lines text ≡ line ∷ fed_lines rest)
