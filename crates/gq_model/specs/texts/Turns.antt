-- Turns, settings and signals: lines with the name of a leaf and a number; and lines that bring all work to rest.
use Rattle.std.specs.Prelude.{ℕ, suc, ◌+◌, ◌^◌, nat_lt, nat_le, ◌==◌, if◌then◌else◌, Bool, true, false, ◌&&◌, List, [], ◌∷◌, ◌++◌, length, Option, Some, None}
use Rattle.std.specs.Prelude.{Result, Ok, Err, slice_get, codes}
use Rattle.gq_model.specs.texts.Letters.{is_name, is_short, number_in, pieces, lines}
use Rattle.gq_model.specs.texts.Operands.{greatest_number}
use Rattle.gq_model.specs.machine.Program.{text_eq}
use Rattle.gq_model.specs.machine.Scenario.{Scenario, Component, System, components, system}
use Rattle.gq_model.specs.machine.Routes.{numbered}
use Rattle.gq_model.specs.machine.Run.{Act, Turns, Sets, Submits, Acts, Ran, begun, run_on}
use Rattle.gq_model.specs.machine.Rest.{as_acts, greatest_turns, to_rest}
-- what a line gives: something to a leaf, by its place, or turns that bring all work to rest
pub use Rattle.gq_model.specs.declared.act.TurnLine.{TurnLine}
pub use Rattle.gq_model.specs.declared.act.TurnLine.TheVariants.{Gives, Rests}
pub use Rattle.gq_model.specs.declared.fault.TurnFault.{TurnFault}
pub use Rattle.gq_model.specs.declared.fault.TurnFault.TheVariants.{BadLine, NoSuchComponent, TooMany, NoInput, InputTooLarge, NoSignal}

abbrev pub Given : Type 0
Given = Result TurnLine TurnFault

-- TURNS

-- a number of one to seven digits, of which the first is not 0
abbrev pub turn_count : List ℕ → Option ℕ
turn_count text = if is_short text then number_in 7 1 9999999 text else None

-- a leaf's place and a number
abbrev pub turn_of : Option ℕ → Option ℕ → Given
turn_of x None = Err BadLine
turn_of None (Some n) = Err NoSuchComponent
turn_of (Some x) (Some n) = Ok (Gives x (Turns n))

-- SETTINGS

-- a name and the number of an input, from 0 to 7
abbrev pub input_of : List ℕ → Option ℕ → Option (List ℕ × ℕ)
input_of name None = None
input_of name (Some i) = if is_name name then Some (name, i) else None

-- with a dot between
abbrev pub input_in : List (List ℕ) → Option (List ℕ × ℕ)
input_in (name ∷ digit ∷ []) = input_of name (number_in 1 0 7 digit)
input_in _ = None

-- the leaf has this input, and its greatest value is no less
abbrev pub setting_within : Option ℕ → ℕ → ℕ → ℕ → Given
setting_within None x i n = Err NoInput
setting_within (Some greatest) x i n = if nat_le n greatest then Ok (Gives x (Sets i n)) else Err InputTooLarge

abbrev pub inputs_at : Option Component → List ℕ
inputs_at None = []
inputs_at (Some c) = c.node.inputs

abbrev pub setting_at : List Component → Option ℕ → ℕ → ℕ → Given
setting_at components None i n = Err NoSuchComponent
setting_at components (Some x) i n = setting_within (slice_get (inputs_at (slice_get components x)) i) x i n

-- the i-th input of the leaf of that name, and a number
abbrev pub setting_of : List Component → Option (List ℕ × ℕ) → Option ℕ → Given
setting_of components None n = Err BadLine
setting_of components (Some p) None = Err BadLine
setting_of components (Some p) (Some n) = setting_at components (numbered 0 p.0 components) p.1 n

-- SIGNALS

-- a name and the number of a signal, from 0 to 2, with an exclamation mark between
abbrev pub signal_in : List (List ℕ) → Option (List ℕ × ℕ)
signal_in (name ∷ digit ∷ []) = input_of name (number_in 1 0 2 digit)
signal_in _ = None

abbrev pub signals_at : Option Component → ℕ
signals_at None = 0
signals_at (Some c) = c.node.signals

-- the leaf has this signal
abbrev pub signal_at : List Component → Option ℕ → ℕ → Given
signal_at components None i = Err NoSuchComponent
signal_at components (Some x) i = if nat_lt i (signals_at (slice_get components x)) then Ok (Gives x (Submits i)) else Err NoSignal

-- the i-th signal of the leaf of that name
abbrev pub signal_of : List Component → Option (List ℕ × ℕ) → Given
signal_of components None = Err BadLine
signal_of components (Some p) = signal_at components (numbered 0 p.0 components) p.1

-- LINES

-- versions from 3 on have inputs
abbrev pub has_inputs : ℕ → Bool
has_inputs version = nat_le 3 version

-- versions from 4 on have signals, and lines that bring all work to rest
abbrev pub has_signals : ℕ → Bool
has_signals version = nat_le 4 version

-- one word: it brings all work to rest, or is a signal
abbrev pub word_of : List Component → List ℕ → Given
word_of components word = if text_eq word (codes "rest") then Ok Rests else signal_of components (signal_in (pieces (λ c. c == 33) word))

-- a name, one space and a number; or an input, an equals sign between two spaces and a number of one to ten digits; or one word
abbrev pub turn_in : ℕ → List Component → List (List ℕ) → Given
turn_in version components (name ∷ count ∷ []) = if is_name name then turn_of (numbered 0 name components) (turn_count count) else Err BadLine
turn_in version components (input ∷ sign ∷ number ∷ []) =
    if has_inputs version && text_eq sign (codes "=")
    then setting_of components (input_in (pieces (λ c. c == 46) input)) (number_in 10 0 greatest_number number)
    else Err BadLine
turn_in version components (word ∷ []) = if has_signals version then word_of components word else Err BadLine
turn_in version components _ = Err BadLine

-- an empty line and one that begins with # say nothing
abbrev pub says_nothing : List ℕ → Bool
says_nothing [] = true
says_nothing (c ∷ rest) = c == 35

-- what the lines of a text give, or its first fault and the line
abbrev pub Listed : Type 0
Listed = Result (List TurnLine) (TurnFault × ℕ)

-- a line before others
abbrev pub line_onto : TurnLine → Listed → Listed
line_onto line (Ok lines) = Ok (line ∷ lines)
line_onto line (Err fault) = Err fault

-- how many turns are given; a setting or a signal is none
abbrev pub turns_given : Act → ℕ
turns_given (Turns n) = n
turns_given (Sets i n) = 0
turns_given (Submits i) = 0

-- how many turns of a line count; those that bring all work to rest do not
abbrev pub line_turns : TurnLine → ℕ
line_turns (Gives x act) = turns_given act
line_turns Rests = 0

-- goes on after the k-th line, with the number of turns so far
abbrev pub after_line : Bool → Given → ℕ → ℕ → (ℕ → Listed) → Listed
after_line true line k n go = go n
after_line false (Err fault) k n go = Err (fault, k)
after_line false (Ok line) k n go =
    let m = n + line_turns line in if nat_le m greatest_turns then line_onto line (go m) else Err (TooMany, k)

-- what these lines give, of which the first is the k-th, after n turns
abbrev pub lines_from : ℕ → List Component → ℕ → ℕ → List (List ℕ) → Listed
lines_from version components k n [] = Ok []
lines_from version components k n (line ∷ rest) =
    after_line (says_nothing line) (turn_in version components (pieces (λ c. c == 32) line)) k n (λ m. lines_from version components (suc k) m rest)

-- what the lines of a text give; a text above 16 MiB is refused first of all
abbrev pub listed : Scenario → List ℕ → Listed
listed s text = if nat_le (length text) (2 ^ 24) then lines_from s.version (components s) 1 0 (lines text) else Err (TooMany, 0)

-- TURNS OF A TEXT

-- what is given to leaves by a line in a run so far
abbrev pub line_acts : System → Ran → TurnLine → Acts
line_acts system ran (Gives x act) = (x, act) ∷ []
line_acts system ran Rests = as_acts (to_rest system ran.world).turns

-- and by lines
abbrev pub acts_from : System → Ran → List TurnLine → Acts
acts_from system ran [] = []
acts_from system ran (line ∷ rest) = let acts = line_acts system ran line in acts ++ acts_from system (run_on system acts ran) rest

abbrev pub Turned : Type 0
Turned = Result Acts (TurnFault × ℕ)

-- from the start world
abbrev pub acts_of : System → Listed → Turned
acts_of system (Ok lines) = Ok (acts_from system (begun system) lines)
acts_of system (Err fault) = Err fault

-- the turns, settings and signals of a text, with those that bring all work to rest in their place, or its first fault and the line
abbrev pub turned : Scenario → List ℕ → Turned
turned s text = acts_of (system s) (listed s text)
