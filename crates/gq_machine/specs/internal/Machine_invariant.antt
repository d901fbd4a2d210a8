-- What holds of a machine between two steps.
use Rattle.std.specs.Prelude.{◌≡◌, ℕ, ◌+◌, ◌<◌, ◌^◌, true, List, length, option_map, slice_get, Option, Some, None, Result, OnErr, OnOk}
use Rattle.gq_model.specs.declared.program.Instruction.{Instruction}
use Rattle.gq_model.specs.declared.fault.Wrong.{Wrong}
use Rattle.gq_model.specs.declared.phase.Phase.TheVariants.{Serving}
use Rattle.gq_model.specs.machine.Doing.{Stepped}
use Rattle.gq_model.specs.machine.Scenario.{Scenario, Component, components, system}
use Rattle.gq_model.specs.machine.Step.{first_signal, next}
use Rattle.gq_model.specs.machine.World as world
use Rattle.gq_bytecode.specs.Nexts.{Active}
use Rattle.gq_bytecode.specs.Programs.{IsCodeOfProgram}
use Rattle.gq_bytecode.specs.declared.operation.Operation.{Operation}
use Rattle.gq_bytecode.specs.declared.operation.Operation.TheVariants.{End}
use Rattle.gq_laws.specs.Session_links.{IsLinkedWorld}
use Rattle.gq_laws.specs.Room.{IsRoomy}
use Rattle.gq_laws.specs.Leaf_phases.{AreReady, serves}
use Rattle.gq_statements.specs.Systems.{IsOf}
use Rattle.gq_statements.specs.Serving.{AreSections}
use Rattle.gq_statements.specs.declared.actor.Current.{Current}
use Rattle.gq_laws.specs.Ready.{IsReady}
use Rattle.gq_prepared.specs.Account_nodes.{AreNodesOf}
use Rattle.gq_prepared.specs.Prepared.{AreOpenings, AreServices}
use Rattle.gq_leaf.specs.Coded.{Coded, operation_of}
use Rattle.gq_machine.specs.Countable.{AreCountable}
use Rattle.gq_machine.specs.Machine_world.{frame_of, world_of}
use Rattle.gq_machine.specs.declared.machine_state.Fixed.{Fixed}
use Rattle.gq_machine.specs.declared.machine_state.Prepared.{Prepared}
use Rattle.gq_machine.specs.declared.machine_state.MachineState.{MachineState}

-- how many sessions there is room for
abbrev pub room : ℕ
room = 16449

-- what is prepared of a leaf with this code
pub record IsPrepared (s : Scenario) (c : Component) (l : Coded) (p : Prepared) : Type 0 where
  pub code : IsCodeOfProgram l.code c.node.program.sections
  pub openings : AreOpenings s c l.code p.openings.items
  pub sections : AreSections p.sections c

pub record Holds (f : Fixed) (m : MachineState) : Type 0 where
  pub ready : IsReady f.table
  pub services : AreServices f.table f.services
  pub count : length m.leaves.items ≡ length (components f.table)
  pub count_prepared : length f.prepared.items ≡ length (components f.table)
  pub prepared : (x : ℕ) (c : Component) (l : Coded) (p : Prepared) → slice_get (components f.table) x ≡ Some c → slice_get m.leaves.items x ≡ Some l
      → slice_get f.prepared.items x ≡ Some p → IsPrepared f.table c l p
  pub nodes : AreNodesOf f.table m.slots.trades
  pub room_is : m.slots.trades.trading.room ≡ room
  pub of : IsOf (system f.table) (frame_of f.table m.leaves.items) m.slots
  pub linked : IsLinkedWorld (system f.table) (world_of f.table m.leaves.items m.slots)
  pub roomy : IsRoomy (world_of f.table m.leaves.items m.slots)
  pub phases : AreReady (system f.table) (world_of f.table m.leaves.items m.slots)

-- a leaf that takes a step
pub record CanStep (f : Fixed) (m : MachineState) (x : ℕ) : Type 0 where
  pub holds : Holds f m
  pub component : Component
  pub component_is : slice_get (components f.table) x ≡ Some component
  pub leaf : Coded
  pub leaf_is : slice_get m.leaves.items x ≡ Some leaf
  pub countable : leaf.state.steps + 1 < 2 ^ 64

-- it is a leaf of which this holds
abbrev pub OfLeaf : (Coded → Type 0) → Option Coded → Type 0
OfLeaf P None = ⊥
OfLeaf P (Some l) = P l

-- the leaf takes steps of its own, and this operation is next
pub record IsNext (m : MachineState) (x : ℕ) (does : Operation) : Type 0 where
  pub active : OfLeaf (λ l. Active l.state.phase) (slice_get m.leaves.items x)
  pub next : OfLeaf (λ l. operation_of l ≡ Some does) (slice_get m.leaves.items x)

-- a leaf that takes a step, of which this operation is next
pub record CanDo (f : Fixed) (m : MachineState) (x : ℕ) (does : Operation) : Type 0 where
  pub can : CanStep f m x
  pub next : IsNext m x does

-- a leaf that takes a step of its own
pub record CanAct (f : Fixed) (m : MachineState) (x : ℕ) : Type 0 where
  pub can : CanStep f m x
  pub active : OfLeaf (λ l. Active l.state.phase) (slice_get m.leaves.items x)

-- the same, where so many steps can be counted
pub record CanGoOn (f : Fixed) (m : MachineState) (x turns : ℕ) : Type 0 where
  pub can : CanStep f m x
  pub active : OfLeaf (λ l. Active l.state.phase) (slice_get m.leaves.items x)
  pub countable : OfLeaf (λ l. l.state.steps + turns < 2 ^ 64) (slice_get m.leaves.items x)

-- a leaf that waits for a signal or a request
pub record CanServe (f : Fixed) (m : MachineState) (x : ℕ) : Type 0 where
  pub can : CanStep f m x
  pub serves : OfLeaf (λ l. l.state.phase ≡ Serving) (slice_get m.leaves.items x)

-- none of the leaf's signals is submitted
abbrev pub HasNoSignal : MachineState → ℕ → Type 0
HasNoSignal m x = OfLeaf (λ l. first_signal l.state.signals ≡ None) (slice_get m.leaves.items x)

-- this is the number of the first of the leaf's signals that is submitted
abbrev pub HasSignal : MachineState → ℕ → ℕ → Type 0
HasSignal m x i = OfLeaf (λ l. option_map (λ p. p.0) (first_signal l.state.signals) ≡ Some i) (slice_get m.leaves.items x)

-- a leaf at the end of a section for its current request
pub record EndsSection (f : Fixed) (m : MachineState) (x : ℕ) (current : Current) : Type 0 where
  pub can : CanStep f m x
  pub next : IsNext m x End
  pub at_current : OfLeaf (λ l. l.state.current ≡ Some current) (slice_get m.leaves.items x)

-- a leaf of a machine that holds, whatever it does, of whose turns so many can be counted
pub record CanTakeTurns (f : Fixed) (m : MachineState) (x turns : ℕ) : Type 0 where
  pub holds : Holds f m
  pub leaf : x < length (components f.table)
  pub countable : AreCountable (world_of f.table m.leaves.items m.slots) x turns

-- What a step leaves: what is kept between two steps holds still; and where it is wrong, nothing changes.
pub record LeavesState {A : Type 0} (result : Result A Wrong) (f : Fixed) (old new : MachineState) : Type 0 where
  pub holds : OnOk result (Holds f new)
  pub leaves : OnErr result (new.leaves.items ≡ old.leaves.items)
  pub slots : OnErr result (new.slots ≡ old.slots)

-- after a step the leaf takes steps of its own as before, of which one more is counted
pub record ActsOn (old new : MachineState) (x : ℕ) : Type 0 where
  pub active : OfLeaf (λ l. Active l.state.phase) (slice_get new.leaves.items x)
  pub counted : (n : ℕ) → OfLeaf (λ l. l.state.steps + (n + 1) < 2 ^ 64) (slice_get old.leaves.items x)
      → OfLeaf (λ l. l.state.steps + n < 2 ^ 64) (slice_get new.leaves.items x)

-- the next step of the leaf x leads from one state to the other
abbrev pub Goes : Fixed → ℕ → MachineState → MachineState → (world.World → Stepped) → Type 0
Goes f x old new shown =
    next (system f.table) (world_of f.table old.leaves.items old.slots) x ≡ shown (world_of f.table new.leaves.items new.slots)

-- the long statement of this number is this instruction
abbrev pub IsLong : MachineState → ℕ → ℕ → Instruction → Type 0
IsLong m x statement i = OfLeaf (λ l. slice_get l.code.longs statement ≡ Some i) (slice_get m.leaves.items x)

-- the leaf is in `main`: it handles neither a request nor a signal
pub record IsInMain (m : MachineState) (x : ℕ) : Type 0 where
  pub no_request : OfLeaf (λ l. l.state.current ≡ None) (slice_get m.leaves.items x)
  pub no_signal : OfLeaf (λ l. l.state.reacting ≡ None) (slice_get m.leaves.items x)

abbrev pub ServesOn : Option Component → Type 0
ServesOn None = ⊥
ServesOn (Some c) = serves c.node.provides c.node.signals ≡ true

-- the leaf is in `main`, and provides a service or has signals
pub record Provides (f : Fixed) (m : MachineState) (x : ℕ) : Type 0 where
  pub main : IsInMain m x
  pub provides : ServesOn (slice_get (components f.table) x)

abbrev pub HasNone : Option Component → Type 0
HasNone None = ⊥
HasNone (Some c) = (c.node.provides ≡ None) × (c.node.signals ≡ 0)

-- the leaf is in `main`, provides nothing and has no signals
pub record EndsMain (f : Fixed) (m : MachineState) (x : ℕ) : Type 0 where
  pub main : IsInMain m x
  pub provides : HasNone (slice_get (components f.table) x)

-- a leaf at the end of the section for a signal
pub record EndsReaction (f : Fixed) (m : MachineState) (x : ℕ) : Type 0 where
  pub can : CanStep f m x
  pub next : IsNext m x End
  pub no_request : OfLeaf (λ l. l.state.current ≡ None) (slice_get m.leaves.items x)
  pub i : ℕ
  pub signal : OfLeaf (λ l. l.state.reacting ≡ Some i) (slice_get m.leaves.items x)
