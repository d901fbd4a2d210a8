-- What comes with a scenario that the verifier accepts.
use Rattle.std.specs.Prelude.{◌≡◌, List, None}
use Rattle.gq_model.specs.machine.Scenario.{Scenario}
use Rattle.gq_model.specs.rules.Accept.{Budget, budgets, refusal}

-- the verifier accepts a scenario; these are the budgets of its leaves
pub record AreOfAccepted (s : Scenario) (bs : List Budget) : Type 0 where
  pub accepted : refusal s ≡ None
  pub budgets : bs ≡ budgets s
