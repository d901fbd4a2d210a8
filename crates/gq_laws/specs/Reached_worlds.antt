-- The worlds that a scenario comes to.
use Rattle.std.specs.Prelude.{◌≡◌}
use Rattle.gq_model.specs.machine.Scenario.{Scenario, system}
use Rattle.gq_model.specs.machine.World.{World}
use Rattle.gq_model.specs.machine.Run.{Acts, run}

-- a run over some turns and settings ends in this world
pub record IsReached (s : Scenario) (w : World) : Type 0 where
  pub turns : Acts
  pub is : (run (system s) turns).world ≡ w
