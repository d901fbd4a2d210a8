-- What the machine stands for.
pub use Rattle.gq_machine.specs.Countable.{AreCountable, IsCountable}
use Rattle.gq_model.specs.machine.Scenario.{Scenario}
use Rattle.gq_model.specs.machine.World.{World}

-- a scenario that runs, and the world between two steps
pub record Machine : Type 0 where
  pub scenario : Scenario
  pub world : World
