-- Leaves that use more than a limit.
use Rattle.std.specs.Prelude.{List}
use Rattle.gq_model.specs.machine.Amounts as resources
use Rattle.gq_model.specs.machine.Scenario.{Component}
use Rattle.gq_model.specs.rules.Accept.{Budget, Refusal}
use Rattle.gq_load.specs.declared.over.Limit.{Limit}
use Rattle.gq_load.specs.declared.over.Limit.TheVariants.{Ram, Steps, Caps}
use Rattle.gq_faults.specs.Scenario_faults.{over_own, over_steps}

-- the refusal of each leaf that uses more than this limit
abbrev pub over_limit : Limit → List Component → List Budget → List Refusal
over_limit Ram = over_own resources.Ram
over_limit Steps = over_steps
over_limit Caps = over_own resources.Caps
