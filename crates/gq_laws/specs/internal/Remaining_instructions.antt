-- What is left of each leaf to do: each instruction of it is such, and each loop has a round.
use Rattle.std.specs.Prelude.{◌≡◌, ℕ, ◌<◌, true, Some, slice_get}
use Rattle.gq_model.specs.machine.Lists.{all_of}
use Rattle.gq_model.specs.declared.program.Instruction.{Instruction}
use Rattle.gq_model.specs.declared.program.Instruction.TheVariants.{Open}
use Rattle.gq_model.specs.machine.Program.{Statements, Done, Do, If, Loop}
use Rattle.gq_model.specs.texts.Operands.{operands, in_range}
use Rattle.gq_model.specs.machine.Scenario.{System, Component}
use Rattle.gq_model.specs.machine.Routes.{server_of}
use Rattle.gq_model.specs.machine.World.{Leaf, World}
use Rattle.gq_laws.specs.Shapes.{Each}

-- each instruction is such, and each loop has a round
abbrev pub AllAre : (Instruction → Type 0) → Statements → Type 0
AllAre P Done = Unit {0}
AllAre P (Do i rest) = P i × AllAre P rest
AllAre P (If arm other rest) = AllAre P arm × AllAre P other × AllAre P rest
AllAre P (Loop n body rest) = (0 < n) × AllAre P body × AllAre P rest

-- so it is of all that is left to a leaf
pub record IsLeft (P : Instruction → Type 0) (leaf : Leaf) : Type 0 where
  pub todo : AllAre P leaf.todo
  pub loops : Each (λ r. AllAre P r.body × AllAre P r.rest) leaf.loops

-- of each leaf in this world, by its component
abbrev pub AreLeft : (Component → Instruction → Type 0) → System → World → Type 0
AreLeft P system w =
    (x : ℕ) (c : Component) (leaf : Leaf) → slice_get system.components x ≡ Some c → slice_get w.leaves x ≡ Some leaf → IsLeft (P c) leaf

-- of the sections of each program
abbrev pub ArePrograms : (Component → Instruction → Type 0) → System → Type 0
ArePrograms P system = (x : ℕ) (c : Component) → slice_get system.components x ≡ Some c → Each (λ p. AllAre (P c) p.1) c.node.program.sections

-- an `open` names a service whose route leads to a server
abbrev pub Leads : System → Component → Instruction → Type 0
Leads system c (Open place service n) = (server : ℕ) × (server_of system c service ≡ Some server)
Leads system c _ = Unit {0}

-- operands are in range, and services are served
abbrev pub IsGood : System → Component → Instruction → Type 0
IsGood system c i = (all_of in_range (operands i) ≡ true) × Leads system c i
