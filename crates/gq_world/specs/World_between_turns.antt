-- A world between two turns, what it keeps, and what a turn does.
use Rattle.std.specs.Prelude.{◌≡◌, ℕ, Bool, true, List, [], ◌∷◌, slice_get, Option, Some, Ok}
use Rattle.std.specs.Io.KnownBytes.{Appends}
use Rattle.gq_model.specs.machine.Scenario.{Scenario, components, system}
use Rattle.gq_model.specs.machine.World as model
use Rattle.gq_model.specs.machine.Doing as doing
use Rattle.gq_model.specs.machine.Step.{next}
use Rattle.gq_model.specs.machine.Run.{label_at, line_of}
use Rattle.gq_model.specs.declared.act.TurnLine.{TurnLine}
use Rattle.gq_init.specs.Turn_items.{IsOf}
use Rattle.gq_machine.specs.declared.event.Event.{Event}
use Rattle.gq_machine.specs.declared.event.Event.TheVariants as events
use Rattle.gq_output.specs.Writes.{IsPrefix}

-- the most lines that a list of turns has
unfoldable pub greatest_lines : ℕ
greatest_lines = 16777217

-- an accepted scenario, the world of the abstract machine, whether a write failed, whether it was stopped, and how many signals were submitted while it was
-- not; a world that is not stopped has had no failed write, and no more signals than a list of turns has lines
pub record World : Type 0 where
  pub scenario : Scenario
  pub world : model.World
  pub failed : Bool
  pub stopped : Bool
  pub signals : ℕ

-- what a step shows, without its text
abbrev pub shown : doing.Event → Event
shown doing.Idle = events.Idle
shown doing.Quiet = events.Quiet
shown doing.Finished = events.Finished
shown (doing.Line text) = events.Line

-- the line of a step of a leaf, with its label
abbrev pub line_reported : Scenario → ℕ → doing.Event → List ℕ
line_reported s leaf event = line_of (label_at (slice_get (components s) leaf)) event

-- the step of the abstract machine was taken, its event reported, and its line written
pub record IsTurn (old new : World) (leaf : ℕ) (event : Event) (before after : Option (List ℕ)) : Type 0 where
  pub step : doing.Event
  pub next : next (system old.scenario) old.world leaf ≡ Ok (new.world, step)
  pub reported : event ≡ shown step
  pub written : Appends before after (line_reported old.scenario leaf step)

-- the step was taken, and a prefix of its line was written
pub record StopsWriting (old new : World) (leaf : ℕ) (before after : Option (List ℕ)) : Type 0 where
  pub step : doing.Event
  pub next : next (system old.scenario) old.world leaf ≡ Ok (new.world, step)
  pub failed : new.failed ≡ true
  pub stopped : new.stopped ≡ true
  pub written : IsPrefix before after (line_reported old.scenario leaf step)

-- each line is of a leaf below this number, or brings all work to rest
abbrev pub AreOf : ℕ → List TurnLine → Type 0
AreOf n [] = Unit {0}
AreOf n (line ∷ rest) = IsOf n line × AreOf n rest

-- the x-th leaf is there, and has taken so many steps
pub record HasTaken (w : model.World) (x steps : ℕ) : Type 0 where
  pub leaf : model.Leaf
  pub there : slice_get w.leaves x ≡ Some leaf
  pub taken : leaf.steps ≡ steps
