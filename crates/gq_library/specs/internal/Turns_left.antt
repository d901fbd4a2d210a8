-- Turns on the way: what is left of them.
use Rattle.std.specs.Prelude.{◌≡◌, ℕ, Bool, true, false}
use Rattle.gq_model.specs.machine.Scenario.{System}
use Rattle.gq_machine.specs.declared.event.Event.{Event}
use Rattle.gq_machine.specs.declared.event.Event.TheVariants as events
use Rattle.gq_library.specs.C_turns.{Burst, taken_on}

-- what shows no line, and is not the end
abbrev pub IsSilent : Event → Type 0
IsSilent events.Idle = Unit {0}
IsSilent events.Quiet = Unit {0}
IsSilent events.Line = ⊥
IsSilent events.Finished = ⊥

-- n turns more come to what k turns come to from there on; or to what is there
abbrev pub Leads : System → ℕ → Burst → ℕ → Burst → ℕ → Bool → Type 0
Leads system x from n to k true = taken_on system x n from ≡ taken_on system x k to
Leads system x from n to k false = taken_on system x n from ≡ to
