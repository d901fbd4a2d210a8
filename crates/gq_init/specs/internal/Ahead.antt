-- What stands at the start of a text of turns.
use Rattle.std.specs.Prelude.{◌≡◌, ℕ, ◌+◌, ◌==◌, List, [], ◌∷◌, ◌++◌, length, slice_index, ◌<◌, Option, Some, Result, Ok, false, true}
use Rattle.gq_model.specs.texts.Letters.{is_digit, is_name, lines, pieces}
use Rattle.gq_model.specs.machine.Lists.{all_of}
use Rattle.gq_model.specs.machine.Routes.{numbered}
use Rattle.gq_model.specs.declared.act.TurnLine.{TurnLine}
use Rattle.gq_model.specs.machine.Scenario.{Scenario, Component}
use Rattle.gq_model.specs.declared.fault.TurnFault.{TurnFault}
use Rattle.gq_model.specs.texts.Turns.{says_nothing, turn_count}
use Rattle.gq_scenario.specs.Text_pieces.{lines_left}
use Rattle.gq_init.specs.TurnLines.{given_in, line_turn}

-- four bytes of the text
abbrev pub four_at : List ℕ → ℕ → List ℕ
four_at text i = slice_index text i ∷ slice_index text (i + 1) ∷ slice_index text (i + 2) ∷ slice_index text (i + 3) ∷ []

-- the text is the name of the leaf x, a space, and the rest
pub record IsLeafAhead (cs : List Component) (text : List ℕ) (x : ℕ) (rest : List ℕ) : Type 0 where
  pub name : List ℕ
  pub is : text ≡ name ++ 32 ∷ rest
  pub named : is_name name ≡ true
  pub number : numbered 0 name cs ≡ Some x

-- the text is digits that spell the number n of turns, a line feed, and the rest
pub record IsCountAhead (text : List ℕ) (n : ℕ) (rest : List ℕ) : Type 0 where
  pub digits : List ℕ
  pub is : text ≡ digits ++ 10 ∷ rest
  pub are : all_of is_digit digits ≡ true
  pub spells : turn_count digits ≡ Some n

-- the first line of the text is a turn, and after its line feed comes the rest
pub record IsTurnAhead (s : Scenario) (text : List ℕ) (turn : TurnLine) (rest : List ℕ) : Type 0 where
  pub line : List ℕ
  pub is : lines text ≡ line ∷ lines rest
  pub says : says_nothing line ≡ false
  pub turn_is : given_in s (pieces (λ c. c == 32) line) ≡ Ok turn
  pub shorter : length rest < length text

-- the first line of the text says nothing, and after its line feed comes the rest
pub record IsCommentAhead (text : List ℕ) (rest : Option (List ℕ)) : Type 0 where
  pub line : List ℕ
  pub is : lines text ≡ line ∷ lines_left rest
  pub says : says_nothing line ≡ true

-- this is what the first line of the text says after n turns, and after its line feed comes the rest
pub record IsLineAhead (s : Scenario) (n : ℕ) (text : List ℕ) (said : Result (Option TurnLine) TurnFault) (rest : Option (List ℕ)) : Type 0 where
  pub line : List ℕ
  pub is : lines text ≡ line ∷ lines_left rest
  pub said_is : said ≡ line_turn s n line
