-- Choices as the code keeps them.
use Rattle.std.specs.Prelude.{◌≡◌, ℕ, Bool, true, false, length, Some, slice_get}
use Rattle.gq_model.specs.declared.phase.Phase.{Phase}
use Rattle.gq_model.specs.declared.phase.Phase.TheVariants.{Pending, Running, Blocked, Serving, Handling, Exited}
use Rattle.gq_model.specs.machine.Routes.{server_of}
use Rattle.gq_model.specs.machine.Scenario.{Component, Scenario, components, system}
use Rattle.gq_model.specs.machine.Program.{body_of, section_in}
use Rattle.gq_model.specs.machine.World.{Leaf, section_of}
use Rattle.gq_bytecode.specs.Cores.{Core}
use Rattle.gq_laws.specs.Stands.{Stands}
use Rattle.gq_machine.specs.Readers.{StandsAt}
use Rattle.gq_machine.specs.Machines.{Machine}
use Rattle.gq_outcomes.specs.Choices.{racy_servers}
use Rattle.gq_outcomes.specs.declared.choices.Choices.{Choices}
use Rattle.gq_outcomes.specs.declared.asks.Asks.{Asks}
use Rattle.gq_outcomes.specs.internal.Asks.{AreOfSections, asks_of}
use Rattle.gq_outcomes.specs.internal.Left.{ahead_in}

-- the machine is one of those from which all that is promised follows
abbrev pub IsSoundMachine : Machine → Type 0
IsSoundMachine m = ∥ Stands m.scenario m.world ∥₁

-- a leaf takes steps of its own in this phase
abbrev pub is_active : Phase → Bool
is_active Pending = false
is_active Running = true
is_active Blocked = false
is_active Serving = false
is_active Handling = true
is_active Exited = false

-- these are the racy servers of a scenario, and what comes next at each place of the programs of its leaves
pub record AreChoices (s : Scenario) (c : Choices) : Type 0 where
  pub racy_are : c.racy.items ≡ racy_servers (system s)
  pub count : length c.asks.items ≡ length (components s)
  pub each : (x : ℕ) (component : Component) (asks : _) → slice_get (components s) x ≡ Some component → slice_get c.asks.items x ≡ Some asks
      → AreOfSections (server_of (system s) component) component.node.program.sections asks.items

-- this is what comes next for a leaf
pub record IsNext (s : Scenario) (c : Component) (l : Leaf) (a : Asks) : Type 0 where
  pub core : Core
  pub stands : StandsAt c l core
  pub is : a ≡ asks_of (server_of (system s) c) (ahead_in (body_of (section_in (section_of l.current l.reacting) c.node.program.sections)) core.position)
