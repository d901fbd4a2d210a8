-- Why a leaf can't have a number at one of its inputs.
use Rattle.std.specs.Prelude.{ℕ, nat_le, if◌then◌else◌, Option, Some, None}
use Rattle.gq_model.specs.machine.Scenario.{Scenario, components}
use Rattle.gq_model.specs.texts.Turns.{inputs_at}
use Rattle.std.specs.Prelude.{slice_get}
use Rattle.gq_machine.specs.declared.input_settings.InputFault.{InputFault}
use Rattle.gq_machine.specs.declared.input_settings.InputFault.TheVariants.{NoInput, TooLarge}

-- by the greatest value of the input, if there is this input
abbrev pub fault_above : Option ℕ → ℕ → Option InputFault
fault_above None n = Some NoInput
fault_above (Some greatest) n = if nat_le n greatest then None else Some TooLarge

-- of the i-th input of the x-th leaf
abbrev pub input_fault : Scenario → ℕ → ℕ → ℕ → Option InputFault
input_fault s x i n = fault_above (slice_get (inputs_at (slice_get (components s) x)) i) n
