-- Turns, settings and signals, line by line.
use Rattle.std.specs.Prelude.{◌≡◌, ℕ, ◌+◌, nat_le, ◌==◌, if◌then◌else◌, Bool, true, false, List, Option, Some, None, Result, Ok, Err, Vec}
use Rattle.std.specs.declared.alloc.Global.{Global}
use Rattle.gq_model.specs.declared.act.TurnLine.{TurnLine}
use Rattle.gq_model.specs.texts.Letters.{pieces}
use Rattle.gq_model.specs.machine.Scenario.{Scenario, components}
use Rattle.gq_model.specs.declared.fault.TurnFault.{TurnFault}
use Rattle.gq_model.specs.declared.fault.TurnFault.TheVariants.{TooMany}
use Rattle.gq_model.specs.texts.Turns.{Given, Listed, turn_in, line_turns, says_nothing}
use Rattle.gq_model.specs.machine.Rest.{greatest_turns}
use Rattle.gq_init.specs.declared.turns.TurnsError.{TurnsError}
use Rattle.gq_init.specs.declared.turns.TurnsError.TheVariants.{Memory, Fault}

-- what was read is the answer, unless memory ran out
abbrev pub IsTurned : Result (Vec TurnLine Global) TurnsError → Listed → Type 0
IsTurned (Ok turns) answer = answer ≡ Ok turns.items
IsTurned (Err (Fault fault line)) answer = answer ≡ Err (fault, line)
IsTurned (Err (Memory why)) answer = Unit {0}

-- a turn, a setting or a signal, unless the sum is too great with it
abbrev pub limited : ℕ → Given → Result (Option TurnLine) TurnFault
limited n (Ok turn) = if nat_le (n + line_turns turn) greatest_turns then Ok (Some turn) else Err TooMany
limited n (Err fault) = Err fault

-- what a line says after n turns: nothing, a turn, a setting or a signal
abbrev pub turn_on : Bool → ℕ → Given → Result (Option TurnLine) TurnFault
turn_on true n turn = Ok None
turn_on false n turn = limited n turn

-- these pieces of a line, in a scenario's version and with its leaves
abbrev pub given_in : Scenario → List (List ℕ) → Given
given_in s parts = turn_in s.version (components s) parts

abbrev pub line_turn : Scenario → ℕ → List ℕ → Result (Option TurnLine) TurnFault
line_turn s n line = turn_on (says_nothing line) n (given_in s (pieces (λ c. c == 32) line))
