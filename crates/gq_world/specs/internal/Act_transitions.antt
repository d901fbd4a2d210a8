-- What turns, settings and signals do to a world, and what they write.
use Rattle.std.specs.Prelude.{◌≡◌, ◌≤◌, ◌+◌, ℕ, false, List, [], ◌∷◌, ◌++◌, Option, None, Result, OnOk, OnErr}
use Rattle.std.specs.Io.KnownBytes.{Appends}
use Rattle.gq_model.specs.machine.World as model
use Rattle.gq_model.specs.machine.Run.{Acts, Ran, begun, run_on}
use Rattle.gq_model.specs.machine.Scenario.{Scenario, System, system}
use Rattle.gq_model.specs.texts.Turns.{acts_from, line_acts, turned}
use Rattle.gq_model.specs.declared.act.TurnLine.{TurnLine}
use Rattle.gq_output.specs.declared.counted.Counted.{Counted}
use Rattle.gq_output.specs.Writer_failures.{written_to, failures_of}
use Rattle.gq_output.specs.Writes.{IsRaised}
use Rattle.gq_reports.specs.Whole.{Written, written_turns}
use Rattle.gq_world.specs.World_between_turns.{World}
pub use Rattle.gq_world.specs.World_between_turns.{AreOf}

-- a run of which no step was wrong
abbrev pub going : model.World → List ℕ → Ran
going w text = record { world = w; text = text; wrong = None }

-- what a line gives was given, from a run so far
abbrev pub line_on : System → TurnLine → Ran → Ran
line_on system line ran = run_on system (line_acts system ran line) ran

abbrev pub lines_on : System → List TurnLine → Ran → Ran
lines_on system [] ran = ran
lines_on system (line ∷ rest) ran = lines_on system rest (line_on system line ran)

-- what all lines give, from the start
abbrev pub acts_of_lines : Scenario → List TurnLine → Acts
acts_of_lines s lines = acts_from (system s) (begun (system s)) lines

-- the turns were taken, and what they write was written
pub record HasRun (turns : Ran → Ran) (old new : World) (before after : Option (List ℕ)) : Type 0 where
  pub text : List ℕ
  pub written : Appends before after text
  pub ran : (prefix : List ℕ) → turns (going old.world prefix) ≡ going new.world (prefix ++ text)
  pub running : new.stopped ≡ false

-- what is left of the turns, from here, does what all of them do from the old world
pub record HasLeft (left all : Ran → Ran) (old new : World) (before after : Option (List ℕ)) : Type 0 where
  pub text : List ℕ
  pub written : Appends before after text
  pub same : (prefix : List ℕ) → left (going new.world (prefix ++ text)) ≡ all (going old.world prefix)
  pub running : new.stopped ≡ false

-- a prefix of what the turns write was written
pub record IsCut (turns : Ran → Ran) (old : World) (before after : Option (List ℕ)) : Type 0 where
  pub text : List ℕ
  pub more : List ℕ → List ℕ
  pub written : Appends before after text
  pub prefix : (prefix : List ℕ) → (turns (going old.world prefix)).text ≡ prefix ++ text ++ more prefix

-- a world runs through turns, with so many signals at most, and what they write is written; or a write fails, which is counted, and a prefix of it was
-- written
pub record RunsThrough {W A E : Type 0} (contents : W → Option (List ℕ)) (turns : Ran → Ran) (most : ℕ) (old new : World) (before after : Counted W)
    (result : Result A E) : Type 0 where
  pub scenario : new.scenario ≡ old.scenario
  pub signals : new.signals ≤ old.signals + most
  pub ran : OnOk result (HasRun turns old new (written_to contents before) (written_to contents after))
  pub counted : OnOk result (failures_of after ≡ failures_of before)
  pub cut : OnErr result (IsCut turns old (written_to contents before) (written_to contents after))
  pub raised : OnErr result (IsRaised (failures_of before) (failures_of after))

-- what a run of this scenario by a text of turns writes, or the first fault of the turns
abbrev pub turns_written : Scenario → List ℕ → Written
turns_written s text = written_turns s (turned s text)
