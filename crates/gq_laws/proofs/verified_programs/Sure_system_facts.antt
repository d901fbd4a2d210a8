-- What is sure of the system of an accepted scenario that is well formed.
use Rattle.std.proofs.Common.{◌≡◌, ◌≤◌, true, ℕ, List, length, Some, None}
use Rattle.std.specs.Prelude.{slice_get}
use Rattle.gq_model.specs.machine.Scenario.{Interface, System, Component, interface_in, service_in}
use Rattle.gq_model.specs.declared.section.Section.{Section}
use Rattle.gq_model.specs.machine.Program.{Statements, section_in}
use Rattle.gq_model.specs.machine.Sections.{is_section}
use Rattle.gq_model.specs.machine.Routes.{server_of}
use Rattle.gq_model.specs.rules.Verdict.{program_fault}
use Rattle.gq_model.specs.rules.Use.{subject}

pub record IsSure (system : System) : Type 0 where
  -- the server of a service is there and provides it
  pub server : (x y : ℕ) (c : Component) (service : List ℕ) → slice_get system.components x ≡ Some c → server_of system c service ≡ Some y
      → (d : Component) × (slice_get system.components y ≡ Some d)
  pub provides : (x y : ℕ) (c d : Component) (service : List ℕ) → slice_get system.components x ≡ Some c → server_of system c service ≡ Some y
      → slice_get system.components y ≡ Some d
      → service_in d.node.provides system.interfaces ≡ interface_in service system.interfaces
  -- no program breaks a rule
  pub faultless : (x : ℕ) (c : Component) → slice_get system.components x ≡ Some c → program_fault (subject system c) ≡ None
  pub locals : (x : ℕ) (c : Component) → slice_get system.components x ≡ Some c → length c.node.program.locals ≡ 8
  -- each section of a program is one that there can be
  pub sections : (x : ℕ) (c : Component) (section : Section) (list : Statements) → slice_get system.components x ≡ Some c
      → section_in section c.node.program.sections ≡ Some list → is_section section ≡ true
  pub upgrades : (service : List ℕ) (i : Interface) → interface_in service system.interfaces ≡ Some i → length i.upgrades ≤ 3
  pub signals : (x : ℕ) (c : Component) → slice_get system.components x ≡ Some c → c.node.signals ≤ 3
