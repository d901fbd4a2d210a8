-- Scenarios whose quanta fit, whose leaves start after fitting siblings, and whose routes lead to leaves without cycle.
use Rattle.std.specs.Prelude.{◌≡◌, None}
use Rattle.gq_model.specs.machine.Scenario.{Scenario}
use Rattle.gq_model.specs.rules.Resolve.{unresolved}
use Rattle.gq_laws.specs.Names.{NamesDiffer}

-- nothing of this is at fault, and no two leaves have the same name
pub record IsResolved (s : Scenario) : Type 0 where
  pub differ : NamesDiffer s
  pub fits : unresolved s ≡ None
