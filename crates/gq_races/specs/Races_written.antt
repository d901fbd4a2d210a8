-- What is written for a scenario's text, and what a text without some lines says.
use Rattle.std.specs.Prelude.{◌≡◌, ℕ, ◌==◌, Bool, true, false, ◌&&◌, List, [], ◌∷◌, ◌++◌, Option, Some, Ok, IsOkAnd}
use Rattle.gq_model.specs.machine.Lists.{any_of}
use Rattle.gq_model.specs.machine.Scenario.{Scenario}
use Rattle.gq_model.specs.texts.Letters.{fed_lines}
use Rattle.gq_load.specs.Load.{loaded}
use Rattle.gq_reports.specs.Whole.{Written, with_scenario}
use Rattle.gq_races.specs.Race_text.{races_text}

-- the statements by which the outcome of an accepted scenario could depend on the turns
abbrev pub races_written : List ℕ → Written
races_written scenario = with_scenario (loaded scenario) (λ s. Ok (races_text s))

-- what was written is known, and is as it was
abbrev pub WroteNothing : Option (List ℕ) → Option (List ℕ) → Type 0
WroteNothing old new = (text : List ℕ) × (old ≡ Some text) × (new ≡ Some text)

-- LINES

-- a line begins with these bytes
abbrev pub begins : List ℕ → List ℕ → Bool
begins [] line = true
begins (c ∷ word) [] = false
begins (c ∷ word) (d ∷ line) = c == d && begins word line

-- no line of the text begins with the word
abbrev pub HasNoLine : List ℕ → List ℕ → Type 0
HasNoLine word text = any_of (begins word) (fed_lines text) ≡ false

-- what was written is known, and just this text was put at its end
abbrev pub Wrote : List ℕ → Option (List ℕ) → Option (List ℕ) → Type 0
Wrote text old new = (before : List ℕ) × (old ≡ Some before) × (new ≡ Some (before ++ text))

-- if the text that was written has no line with the word at its start, the scenario is loaded and is so
abbrev pub MeansWithout : List ℕ → (Scenario → Type 0) → List ℕ → (old new : Option (List ℕ)) → Type 0
MeansWithout word IsSo scenario old new = (text : List ℕ) → Wrote text old new → HasNoLine word text → IsOkAnd (loaded scenario) IsSo
