-- Turns, settings and signals of a text that comes in pieces.
use Rattle.std.specs.Prelude.{ℕ, ◌+◌, ◌^◌, nat_le, if◌then◌else◌, List, ◌++◌, length, Option, Some, None, Ok, Err}
use Rattle.gq_model.specs.machine.Scenario.{Scenario, components}
use Rattle.gq_model.specs.declared.fault.TurnFault.{TurnFault}
use Rattle.gq_model.specs.declared.fault.TurnFault.TheVariants.{TooMany}
use Rattle.gq_model.specs.texts.Letters.{lines}
use Rattle.gq_model.specs.texts.Turns.{Listed, lines_from}
use Rattle.gq_model.specs.declared.act.TurnLine.{TurnLine}

-- these turns before others
abbrev pub prepended : List TurnLine → Listed → Listed
prepended turns (Ok rest) = Ok (turns ++ rest)
prepended turns (Err fault) = Err fault

-- what was read of a text: the turns, settings and signals of its lines, how many turns they are, the number of lines, or the first fault with its line; how
-- many bytes have come; and what follows the last line feed
pub record Reading : Type 0 where
  pub items : List TurnLine
  pub total : ℕ
  pub line : ℕ
  pub fault : Option (TurnFault × ℕ)
  pub size : ℕ
  pub last : List ℕ

-- a fault that was found goes before all that follows
abbrev pub unless : Option (TurnFault × ℕ) → Listed → Listed
unless None listed = listed
unless (Some fault) listed = Err fault

-- what all lines say, when these are still to come
abbrev pub reported : Scenario → List TurnLine → (total line : ℕ) → Option (TurnFault × ℕ) → List (List ℕ) → Listed
reported s items total line fault more = unless fault (prepended items (lines_from s.version (components s) (line + 1) total more))

-- what all of the text says, when this is still to come
abbrev pub answer : Scenario → Reading → List ℕ → Listed
answer s r rest =
    if nat_le (r.size + length rest) (2 ^ 24) then reported s r.items r.total r.line r.fault (lines (r.last ++ rest)) else Err (TooMany, 0)
