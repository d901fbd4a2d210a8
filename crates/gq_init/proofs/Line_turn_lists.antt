-- Turns of lines, one line after another.
use Rattle.std.proofs.Common.{◌≡◌, ◌==◌, ℕ, suc, ◌+◌, nat_le, Bool, true, false, cond, List, [], ◌∷◌, ◌++◌, Option, Some, None, Result, Ok, Err, refl, ap, sym}
use Rattle.std.proofs.Common.{add-one, append_assoc}
use Rattle.gq_model.specs.declared.fault.TurnFault.{TurnFault}
use Rattle.gq_model.specs.declared.fault.TurnFault.TheVariants.{TooMany}
use Rattle.gq_model.specs.declared.act.TurnLine.{TurnLine}
use Rattle.gq_model.specs.texts.Letters.{pieces}
use Rattle.gq_model.specs.machine.Scenario.{Scenario, components}
use Rattle.gq_model.specs.texts.Turns.{Given, Listed, lines_from, line_turns, line_onto, says_nothing, after_line}
use Rattle.gq_model.specs.machine.Rest.{greatest_turns}
use Rattle.gq_init.specs.TurnLines.{given_in, turn_on, line_turn}
use Rattle.gq_init.specs.TurnReading.{prepended}

pub prepended-empty : (answer : Listed) → prepended [] answer ≡ answer
prepended-empty (Ok rest) = refl
prepended-empty (Err fault) = refl

prepended-append : (turns : List TurnLine) (turn : TurnLine) (answer : Listed) → prepended turns (line_onto turn answer) ≡ prepended (turns ++ turn ∷ []) answer
prepended-append turns turn (Ok rest) = ap Ok (sym (append_assoc turns (turn ∷ []) rest))
prepended-append turns turn (Err fault) = refl

-- what follows a line that gave this
abbrev on_line : Result (Option TurnLine) TurnFault → ℕ → ℕ → (ℕ → Listed) → Listed
on_line (Ok None) k n go = go n
on_line (Ok (Some turn)) k n go = line_onto turn (go (n + line_turns turn))
on_line (Err fault) k n go = Err (fault, k)

limited_by : (b : Bool) (turn : TurnLine) (k n : ℕ) (go : ℕ → Listed)
    → cond b (line_onto turn (go (n + line_turns turn))) (Err (TooMany, k)) ≡ on_line (cond b (Ok (Some turn)) (Err TooMany)) k n go
limited_by true turn k n go = refl
limited_by false turn k n go = refl

after_line-is : (b : Bool) (turn : Given) (k n : ℕ) (go : ℕ → Listed) → after_line b turn k n go ≡ on_line (turn_on b n turn) k n go
after_line-is true turn k n go = refl
after_line-is false (Err fault) k n go = refl
after_line-is false (Ok turn) k n go = limited_by (nat_le (n + line_turns turn) greatest_turns) turn k n go

-- what lines say from the k-th on, after n turns
abbrev pub said_from : Scenario → ℕ → ℕ → List (List ℕ) → Listed
said_from s k n rest = lines_from s.version (components s) k n rest

turns_from-line : (s : Scenario) (k n : ℕ) (line : List ℕ) (rest : List (List ℕ))
    → said_from s k n (line ∷ rest) ≡ on_line (line_turn s n line) k n (λ m. said_from s (suc k) m rest)
turns_from-line s k n line rest = after_line-is (says_nothing line) (given_in s (pieces (λ c. c == 32) line)) k n (λ m. said_from s (suc k) m rest)

pub turned_none : (s : Scenario) (k n : ℕ) (line : List ℕ) (rest : List (List ℕ)) → line_turn s n line ≡ Ok None
    → said_from s k n (line ∷ rest) ≡ said_from s (k + 1) n rest
turned_none s k n line rest e = rw (turns_from-line s k n line rest, e, add-one) refl

pub turned_some : (s : Scenario) (k n : ℕ) (line : List ℕ) (rest : List (List ℕ)) (turns : List TurnLine) (turn : TurnLine)
    → line_turn s n line ≡ Ok (Some turn)
    → prepended turns (said_from s k n (line ∷ rest)) ≡ prepended (turns ++ turn ∷ []) (said_from s (k + 1) (n + line_turns turn) rest)
turned_some s k n line rest turns turn e =
    rw (turns_from-line s k n line rest, e, add-one) (prepended-append turns turn (said_from s (suc k) (n + line_turns turn) rest))

pub turned_fault : (s : Scenario) (k n : ℕ) (line : List ℕ) (rest : List (List ℕ)) (turns : List TurnLine) (fault : TurnFault) → line_turn s n line ≡ Err fault
    → prepended turns (said_from s k n (line ∷ rest)) ≡ Err (fault, k)
turned_fault s k n line rest turns fault e = rw (turns_from-line s k n line rest, e) refl
