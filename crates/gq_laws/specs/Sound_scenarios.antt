-- Scenarios as the readers give them, and those of them that are accepted.
use Rattle.std.specs.Prelude.{◌≡◌, ◌≤◌, ℕ, List, length, Some, slice_get}
use Rattle.gq_model.specs.machine.Amounts.{counted_in}
use Rattle.gq_model.specs.texts.Code.{IsProgram}
use Rattle.gq_model.specs.machine.Scenario.{Interface, Scenario, Component, components, interface_in}
use Rattle.gq_model.specs.rules.Accept.{IsAccepted}
use Rattle.gq_laws.specs.Names.{NamesDiffer}

-- what a reader of scenarios makes sure of
pub record IsWellFormed (s : Scenario) : Type 0 where
  -- no two leaves have the same name
  pub differ : NamesDiffer s
  -- programs have eight locals, sections in their order, and operands in range
  pub programs : (x : ℕ) (c : Component) → slice_get (components s) x ≡ Some c → IsProgram c.node.program
  -- a service counts the resources that the scenario counts, and has at most 3 upgrades
  pub counted : (service : List ℕ) (i : Interface) → interface_in service s.interfaces ≡ Some i → i.counted ≡ counted_in s.version
  pub upgrades : (service : List ℕ) (i : Interface) → interface_in service s.interfaces ≡ Some i → length i.upgrades ≤ 3
  -- a leaf has at most 3 signals
  pub signals : (x : ℕ) (c : Component) → slice_get (components s) x ≡ Some c → c.node.signals ≤ 3

-- it is accepted, too
pub record IsSound (s : Scenario) : Type 0 where
  pub formed : IsWellFormed s
  pub accepted : IsAccepted s
