-- How a run over the turns of a reader ends.
use Rattle.std.specs.Prelude.{◌≡◌, ℕ, List, ◌++◌, ◌+◌, length, Option, Result, Ok, Err, Vec, string_bytes}
use Rattle.std.specs.Io.KnownBytes.{Consumes}
use Rattle.std.specs.declared.alloc.Global.{Global}
use Rattle.gq_model.specs.declared.act.TurnLine.{TurnLine}
use Rattle.gq_model.specs.machine.Scenario.{Scenario}
use Rattle.gq_model.specs.texts.Turns.{listed}
use Rattle.gq_init.specs.TurnReading.{Reading, answer}
use Rattle.gq_reports.specs.Command_outcomes.{IsCutShort, IsWhole}
use Rattle.gq_reports.specs.Whole.{Written}
use Rattle.gq_world.specs.internal.Act_transitions.{turns_written}
use Rattle.gq_cli.specs.Executed.{ReadsText}
use Rattle.gq_cli.specs.declared.execute.CommandFault.{CommandFault}
use Rattle.gq_cli.specs.declared.execute.CommandFault.TheVariants.{Refused, Memory, Read, Write}

-- the turns, settings and signals for a scenario were read to the end of a reader, or are refused by this line
abbrev pub ReadsTurns : Scenario → (old new : Option (List ℕ)) → Result (Vec TurnLine Global) CommandFault → Type 0
ReadsTurns s old new (Ok items) = ReadsText old new (λ text. listed s text ≡ Ok items.items)
ReadsTurns s old new (Err (Refused line)) = ReadsText old new (λ text. turns_written s text ≡ Err (string_bytes line))
ReadsTurns s old new (Err Memory) = Unit {0}
ReadsTurns s old new (Err Read) = Unit {0}
ReadsTurns s old new (Err Write) = Unit {0}

-- a text came from a reader, and what is reported once the rest comes is what was reported of both
pub record HasCome (s : Scenario) (old new : Option (List ℕ)) (before after : Reading) : Type 0 where
  pub text : List ℕ
  pub taken : Consumes old new text
  pub size : after.size ≡ before.size + length text
  pub same : (rest : List ℕ) → answer s after rest ≡ answer s before (text ++ rest)

-- how a run by the turns of this text ends
abbrev pub EndsAs : Scenario → List ℕ → {A : Type 0} → Result A CommandFault → (before after : Option (List ℕ)) → Type 0
EndsAs s text (Ok u) before after = IsWhole (turns_written s text) before after
EndsAs s text (Err (Refused line)) before after = turns_written s text ≡ Err (string_bytes line)
EndsAs s text (Err Memory) before after = ⊥
EndsAs s text (Err Read) before after = ⊥
EndsAs s text (Err Write) before after = IsCutShort (turns_written s text) before after

-- why what is to be written is not
abbrev pub RefusesAs : Written → CommandFault → Type 0
RefusesAs written (Refused line) = written ≡ Err (string_bytes line)
RefusesAs written Memory = Unit {0}
RefusesAs written Read = Unit {0}
RefusesAs written Write = ⊥
