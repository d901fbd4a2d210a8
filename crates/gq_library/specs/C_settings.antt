-- Settings of inputs, as C makes them.
use Rattle.std.specs.Prelude.{◌≡◌, ℕ, Option, Some, None}
use Rattle.gq_model.specs.machine.Run.{set_input}
use Rattle.gq_model.specs.machine.Scenario.{system}
use Rattle.gq_machine.specs.Input_settings.{input_fault}
use Rattle.gq_machine.specs.declared.input_settings.InputFault.{InputFault}
use Rattle.gq_machine.specs.declared.input_settings.InputFault.TheVariants.{NoInput, TooLarge}
use Rattle.gq_world.specs.World_between_turns.{World}

-- the number of each fault
abbrev pub fault_number : InputFault → ℕ
fault_number NoInput = 1
fault_number TooLarge = 2

-- 0 if there is no fault
abbrev pub setting_number : Option InputFault → ℕ
setting_number None = 0
setting_number (Some fault) = fault_number fault

-- an input of a leaf was set, if the definition allows it; a setting that it refuses changes nothing
pub record IsSetting (old new : World) (leaf input number result : ℕ) : Type 0 where
  pub scenario : new.scenario ≡ old.scenario
  pub set : new.world ≡ set_input (system old.scenario) old.world leaf input number
  pub stopped : new.stopped ≡ old.stopped
  pub code : result ≡ setting_number (input_fault old.scenario leaf input number)
