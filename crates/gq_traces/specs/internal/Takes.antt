-- What the code makes of turns.
use Rattle.std.specs.Prelude.{◌≡◌, ℕ, Ok}
use Rattle.gq_model.specs.machine.Doing.{Event}
use Rattle.gq_model.specs.machine.Scenario.{System}
use Rattle.gq_model.specs.machine.Step.{next}
use Rattle.gq_model.specs.machine.World.{World}

-- the next step of the x-th leaf leads from one world to the other
pub record TakesTurn (system : System) (x : ℕ) (old new : World) : Type 0 where
  pub event : Event
  pub goes : next system old x ≡ Ok (new, event)
