-- What a leaf's steps need beside its code, and is fixed once a scenario is loaded.
use Rattle.std.specs.Prelude.{◌≡◌, ℕ, ◌<◌, List, [], length, map, get_or, slice_get, Some}
use Rattle.gq_model.specs.declared.program.Instruction.TheVariants.{Open}
use Rattle.gq_model.specs.declared.program.OperandSlot.{OperandSlot}
use Rattle.gq_model.specs.declared.section.Section.{Section}
use Rattle.gq_model.specs.machine.Memory.{buffer_of}
use Rattle.gq_model.specs.machine.Program.{Statements, section_in}
use Rattle.gq_model.specs.machine.Routes.{server_of}
use Rattle.gq_model.specs.machine.Scenario.{Component, Scenario, interface_in, open_caps, system, upgrade_caps}
use Rattle.gq_bytecode.specs.declared.operation.Operation.{Operation}
use Rattle.gq_bytecode.specs.declared.operation.Operation.TheVariants.{Long}
use Rattle.gq_bytecode.specs.Programs.{ProgramCode, code_in}
use Rattle.gq_prepared.specs.declared.openings.Opening.{Opening}

-- the names of the services, by their numbers
abbrev pub names_of : Scenario → List (List ℕ)
names_of s = map (λ e. e.0) s.interfaces

-- OPENINGS

-- This is where an `open` of a service leads in a leaf's program: the leaf that serves it, the number of the service, if it is served, and the
-- capabilities that are given.
pub record IsOpening (s : Scenario) (c : Component) (name : List ℕ) (o : Opening) : Type 0 where
  pub server : server_of (system s) c name ≡ o.server
  pub service : (y : ℕ) → o.server ≡ Some y → (o.service < length s.interfaces) × (get_or (names_of s) o.service [] ≡ name)
  pub caps : o.caps ≡ open_caps (interface_in name s.interfaces)

-- each `open` that stands in the code of a section has its own, by its number
abbrev pub AreOpenings : Scenario → Component → ProgramCode → List Opening → Type 0
AreOpenings s c code os =
    (section : Section) (ops : List Operation) (body : Statements) (p number : ℕ) (place : OperandSlot) (name : List ℕ) (n : ℕ)
    → code_in section code.sections ≡ Some ops → section_in section c.node.program.sections ≡ Some body → slice_get ops p ≡ Some (Long number)
    → slice_get code.longs number ≡ Some (Open place name n) → (o : Opening) × (slice_get os number ≡ Some o) × IsOpening s c name o

-- SERVICES

-- what services give, by their numbers: the bytes of objects, the capabilities of upgrades at each level, and the bytes of buffers
pub record Given : Type 0 where
  pub objects : List ℕ
  pub upgrades : List (List ℕ)
  pub buffers : List ℕ

-- the capabilities that are given with an upgrade of a session of this level
abbrev pub caps_at : Given → ℕ → ℕ → ℕ
caps_at v i level = get_or (get_or v.upgrades i []) level 0

-- This is what the services of a scenario give.
pub record AreServices (s : Scenario) (v : Given) : Type 0 where
  pub objects : v.objects ≡ map (λ e. e.1.object) s.interfaces
  pub upgrades : (i level : ℕ) → i < length s.interfaces
      → caps_at v i level ≡ upgrade_caps (interface_in (get_or (names_of s) i []) s.interfaces) level
  pub buffers : (i : ℕ) → i < length s.interfaces → get_or v.buffers i 0 ≡ buffer_of (system s) (get_or (names_of s) i [])
