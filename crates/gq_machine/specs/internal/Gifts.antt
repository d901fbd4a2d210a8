-- What a leaf gives with what it asks for.
use Rattle.std.specs.Prelude.{◌≡◌, ℕ, List, Option, Some, None, slice_get}
use Rattle.gq_tariff.specs.declared.amount.Amount.{Amount}
use Rattle.gq_model.specs.declared.program.Instruction.TheVariants as instruction
use Rattle.gq_model.specs.declared.program.OperandSlot.{OperandSlot}
use Rattle.gq_model.specs.machine.Amounts.{amount}
use Rattle.gq_model.specs.machine.Scenario.{Scenario, Component, interface_in, system, upgrade_caps}
use Rattle.gq_model.specs.machine.World as world
use Rattle.gq_prepared.specs.Prepared.{IsOpening}
use Rattle.gq_prepared.specs.declared.openings.Opening.{Opening}
use Rattle.gq_leaf.specs.Coded.{Coded}
use Rattle.gq_leaf.specs.Leaf_steps.{session_of}
use Rattle.gq_machine.specs.Machine_world.{frame_of, world_of}
use Rattle.gq_machine.specs.declared.machine_state.Fixed.{Fixed}
use Rattle.gq_machine.specs.declared.machine_state.MachineState.{MachineState}
use Rattle.gq_machine.specs.internal.Machine_invariant.{IsLong, OfLeaf}

-- n bytes, and what the service of the session asks for its next level
abbrev pub IsGiftOf : Fixed → MachineState → ℕ → OperandSlot → ℕ → Amount → Coded → Type 0
IsGiftOf f m x place n donation l = (k : ℕ) (q : world.Session) → session_of (frame_of f.table m.leaves.items) m.slots x l place ≡ Some k
    → world.session_at (world_of f.table m.leaves.items m.slots) k ≡ Some q
    → donation ≡ amount n (upgrade_caps (interface_in q.service (system f.table).interfaces) q.level)

abbrev pub IsGift : Fixed → MachineState → ℕ → OperandSlot → ℕ → Amount → Type 0
IsGift f m x place n donation = OfLeaf (IsGiftOf f m x place n donation) (slice_get m.leaves.items x)

-- the long statement of this number opens a session with n bytes
abbrev pub OpensAt : MachineState → ℕ → ℕ → OperandSlot → ℕ → Type 0
OpensAt m x statement place n = (name : List ℕ) × IsLong m x statement (instruction.Open place name n)

abbrev pub Opens : MachineState → ℕ → ℕ → Type 0
Opens m x statement = (place : OperandSlot) × (n : ℕ) × OpensAt m x statement place n

-- this is where an `open` leads in the program of the component
abbrev pub LeadsBy : Scenario → Option Component → List ℕ → Opening → Type 0
LeadsBy s None name o = ⊥
LeadsBy s (Some c) name o = IsOpening s c name o
