-- Leaves that use more than there is for them, of bytes, of steps or of capabilities.
use Rattle.std.specs.Prelude.{◌≡◌, List, Option, Some, None}
use Rattle.gq_model.specs.machine.Amounts as resources
use Rattle.gq_model.specs.machine.Scenario.{Component}
use Rattle.gq_model.specs.rules.Accept.{Budget, Refusal, own_refusal, steps_refusal}
use Rattle.gq_load.specs.Load_faults.{Prints}
use Rattle.gq_load.specs.Load.{refused}
use Rattle.gq_load.specs.declared.load_fault.LoadFault.{LoadFault}
use Rattle.gq_load.specs.declared.over.Limit.{Limit}
use Rattle.gq_load.specs.declared.over.Limit.TheVariants.{Ram, Steps, Caps}

-- the refusal of the first leaf that uses more than this limit
abbrev pub over_refusal : Limit → List Component → List Budget → Option Refusal
over_refusal Ram = own_refusal resources.Ram
over_refusal Steps = steps_refusal
over_refusal Caps = own_refusal resources.Caps

-- a fault prints the line of the refusal; without a fault there is no refusal
abbrev pub IsFaultFor : Option LoadFault → Option Refusal → Type 0
IsFaultFor None why = why ≡ None
IsFaultFor (Some fault) why = Prints fault (refused why)
