-- Where a statement leads, whether it stands in the leaf's program or not.
use Rattle.std.specs.Prelude.{◌≡◌, ℕ, ◌<◌, List, [], length, get_or, Option, Some}
use Rattle.gq_model.specs.declared.program.Instruction.{Instruction}
use Rattle.gq_model.specs.declared.program.Instruction.TheVariants.{Open}
use Rattle.gq_model.specs.machine.Scenario.{Component, Scenario, interface_in, open_caps, system}
use Rattle.gq_resolve.specs.NodeTables.{opened_server}
use Rattle.gq_prepared.specs.Prepared.{names_of}
use Rattle.gq_prepared.specs.declared.openings.Opening.{Opening}

-- this is the server of the interface of this number, where the leaf's program opens it
abbrev pub IsServed : Scenario → Component → ℕ → Option ℕ → Type 0
IsServed s c number server = server ≡ opened_server (system s) c (get_or (names_of s) number [])

-- the same, but for a server of a service that the leaf's program does not open
pub record IsOpened (s : Scenario) (c : Component) (name : List ℕ) (o : Opening) : Type 0 where
  pub server : opened_server (system s) c name ≡ o.server
  pub service : (y : ℕ) → o.server ≡ Some y → (o.service < length s.interfaces) × (get_or (names_of s) o.service [] ≡ name)
  pub caps : o.caps ≡ open_caps (interface_in name s.interfaces)

-- so it is of the statement, if it is an `open`
abbrev pub IsOpenedBy : Scenario → Component → Instruction → Opening → Type 0
IsOpenedBy s c (Open place name n) o = IsOpened s c name o
IsOpenedBy s c _ o = Unit {0}
