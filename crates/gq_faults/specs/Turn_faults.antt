-- All faults of a text of turns, settings and signals that are reported at once, and why a scenario and turns are refused.
use Rattle.std.specs.Prelude.{◌≡◌, ℕ, suc, ◌+◌, ◌^◌, nat_le, ◌==◌, if◌then◌else◌, Bool, true, false, List, [], ◌∷◌, ◌++◌, length, map}
use Rattle.std.specs.Prelude.{Option, Some, None, option_map, Result, Ok, Err, codes, decimal}
use Rattle.gq_model.specs.declared.act.TurnLine.{TurnLine}
use Rattle.gq_model.specs.machine.Scenario.{Scenario}
use Rattle.gq_model.specs.texts.Fault_texts.{turn_fault_word}
use Rattle.gq_model.specs.texts.Letters.{pieces, lines}
use Rattle.gq_model.specs.texts.Turns.{Given, line_turns, says_nothing, turned}
use Rattle.gq_model.specs.machine.Rest.{greatest_turns}
use Rattle.gq_model.specs.declared.fault.TurnFault.{TurnFault}
use Rattle.gq_model.specs.declared.fault.TurnFault.TheVariants.{BadLine, NoSuchComponent, TooMany, NoInput, InputTooLarge, NoSignal}
use Rattle.gq_scenario.specs.Text_pieces.{lines_left}
use Rattle.gq_init.specs.TurnLines.{given_in}
use Rattle.gq_load.specs.Load.{LoadRefusal, fault_text, loaded}
use Rattle.gq_load.specs.Load_faults.{load_fault_text}
use Rattle.gq_faults.specs.First_stage_faults.{fault_lines}
use Rattle.gq_faults.specs.declared.turn_faults.Refused.{Refused}
use Rattle.gq_faults.specs.declared.turn_faults.Refused.TheVariants as refused

-- FAULTS

-- these turns after those before them; none once there were too many
abbrev pub with_turns : ℕ → Option ℕ → Option ℕ
with_turns count None = None
with_turns count (Some n) = if nat_le (n + count) greatest_turns then Some (n + count) else None

-- that there are too many turns is reported once, at the line with which there are
abbrev pub too_many_at : ℕ → Option ℕ → Option ℕ → List (TurnFault × ℕ)
too_many_at k (Some n) None = (TooMany, k) ∷ []
too_many_at k before after = []

-- goes on after the k-th line, with the number of turns so far
abbrev pub past_line : Bool → Given → ℕ → Option ℕ → (Option ℕ → List (TurnFault × ℕ)) → List (TurnFault × ℕ)
past_line true turn k before go = go before
past_line false (Err fault) k before go = (fault, k) ∷ go before
past_line false (Ok turn) k before go = let after = with_turns (line_turns turn) before in too_many_at k before after ++ go after

-- the faults of these lines, of which the first is the k-th, after so many turns
abbrev pub line_faults : Scenario → ℕ → Option ℕ → List (List ℕ) → List (TurnFault × ℕ)
line_faults s k before [] = []
line_faults s k before (line ∷ rest) =
    past_line (says_nothing line) (given_in s (pieces (λ c. c == 32) line)) k before (λ after. line_faults s (suc k) after rest)

-- each line of another form, each name that is no leaf's, each input or signal that a leaf has not, each value that is too large, and the line at which there
-- are too many turns, each with its line; a text above 16 MiB has one fault
abbrev pub turn_faults : Scenario → List ℕ → List (TurnFault × ℕ)
turn_faults s text = if nat_le (length text) (2 ^ 24) then line_faults s 1 (Some 0) (lines text) else (TooMany, 0) ∷ []

-- the line that reports a fault of turns
abbrev pub turn_fault_line : TurnFault × ℕ → List ℕ
turn_fault_line fault = turn_fault_word fault.0 ++ codes " line " ++ decimal fault.1

-- the fault for which turns are refused
abbrev pub fault_of_turns : {A : Type 0} → Result A (TurnFault × ℕ) → Option (TurnFault × ℕ)
fault_of_turns (Ok turns) = None
fault_of_turns (Err fault) = Some fault

-- BOTH

-- what is reported of a scenario that is refused, or else of turns
abbrev pub reported_of : {A : Type 0} → Result Scenario LoadRefusal → A → A → A
reported_of (Err fault) scenario turns = scenario
reported_of (Ok s) scenario turns = turns

-- the faults of a scenario's text, or else those of a text of turns
abbrev pub lines_from : Result Scenario LoadRefusal → List ℕ → List ℕ → List (List ℕ)
lines_from (Err fault) scenario turns = fault_lines scenario
lines_from (Ok s) scenario turns = map turn_fault_line (turn_faults s turns)

abbrev pub lines_of_both : List ℕ → List ℕ → List (List ℕ)
lines_of_both scenario turns = lines_from (loaded scenario) scenario turns

-- the answer is the fault of the scenario
abbrev pub AnswersFault : Option Refused → LoadRefusal → Type 0
AnswersFault None fault = ⊥
AnswersFault (Some (refused.Scenario f)) fault = load_fault_text f ≡ fault_text fault
AnswersFault (Some (refused.Turns fault line)) other = ⊥

-- the answer is the fault of the turns, if there is one
abbrev pub AnswersTurns : Option Refused → Option (TurnFault × ℕ) → Type 0
AnswersTurns None first = first ≡ None
AnswersTurns (Some (refused.Scenario f)) first = ⊥
AnswersTurns (Some (refused.Turns fault line)) first = first ≡ Some (fault, line)

-- the answer says why a run of the scenario by the turns is refused, if it is
abbrev pub Answers : Option Refused → Result Scenario LoadRefusal → List ℕ → Type 0
Answers answer (Err fault) turns = AnswersFault answer fault
Answers answer (Ok s) turns = AnswersTurns answer (fault_of_turns (turned s turns))

-- WALKS

-- the fault that is reported of a line that says this after so many turns
abbrev pub reported_fault : Result (Option TurnLine) TurnFault → Option ℕ → Option TurnFault
reported_fault (Ok turn) before = None
reported_fault (Err TooMany) before = option_map (λ n. TooMany) before
reported_fault (Err BadLine) before = Some BadLine
reported_fault (Err NoSuchComponent) before = Some NoSuchComponent
reported_fault (Err NoInput) before = Some NoInput
reported_fault (Err InputTooLarge) before = Some InputTooLarge
reported_fault (Err NoSignal) before = Some NoSignal

-- how many turns there are after it
abbrev pub turns_after : Result (Option TurnLine) TurnFault → Option ℕ → Option ℕ
turns_after (Ok None) before = before
turns_after (Ok (Some turn)) before = option_map (λ n. n + line_turns turn) before
turns_after (Err TooMany) before = None
turns_after (Err BadLine) before = before
turns_after (Err NoSuchComponent) before = before
turns_after (Err NoInput) before = before
turns_after (Err InputTooLarge) before = before
turns_after (Err NoSignal) before = before

-- the faults of what is left after the k-th line
abbrev pub faults_left : Scenario → ℕ → Option ℕ → Option (List ℕ) → List (TurnFault × ℕ)
faults_left s k before left = line_faults s (k + 1) before (lines_left left)
