-- A machine by its fields, and how it is at the start.
use Rattle.std.specs.Prelude.{◌≡◌, ℕ, List, length, replicate, slice_get, Some}
use Rattle.gq_model.specs.machine.Scenario.{Scenario, Component, components}
use Rattle.gq_model.specs.machine.World.{first_phase}
use Rattle.gq_bytecode.specs.Programs.{IsCodeOfProgram}
use Rattle.gq_contents.specs.declared.content.Content.TheVariants.{Empty}
use Rattle.gq_trade.specs.declared.trade_node.NodeState.{NodeState}
use Rattle.gq_trade.specs.Trades_plan.{IsFirst}
use Rattle.gq_slots.specs.Slots.{AreNew, Slots}
use Rattle.gq_prepared.specs.Account_nodes.{caps_of}
use Rattle.gq_prepared.specs.Scenario_plan.{IsPlanOf}
use Rattle.gq_leaf.specs.Coded.{Coded, first_state}
use Rattle.gq_machine.specs.Machines.{Machine}
use Rattle.gq_machine.specs.Machine_world.{world_of}
use Rattle.gq_machine.specs.declared.machine.Machine.TheInside.{Inside}
use Rattle.gq_machine.specs.declared.machine_state.Prepared.{Prepared}
use Rattle.gq_machine.specs.internal.Machine_invariant.{IsPrepared, room}

abbrev pub machine_seen : Inside → Machine
machine_seen m = record { scenario = m.fixed.table; world = world_of m.fixed.table m.state.leaves.items m.state.slots }

-- the leaf is at the start of its program
pub record IsFirstOf (c : Component) (l : Coded) : Type 0 where
  pub state : l.state ≡ first_state (first_phase c.node.after) c.node.signals
  pub code : IsCodeOfProgram l.code c.node.program.sections

-- these are the first leaves of the components
pub record AreFirst (cs : List Component) (n : ℕ) (ls : List Coded) : Type 0 where
  pub count : length ls ≡ n
  pub each : (x : ℕ) (c : Component) (l : Coded) → slice_get cs x ≡ Some c → slice_get ls x ≡ Some l → IsFirstOf c l

-- all that is prepared of the first leaves
pub record ArePrepared (s : Scenario) (n : ℕ) (ls : List Coded) (ps : List Prepared) : Type 0 where
  pub count : length ps ≡ n
  pub each : (x : ℕ) (c : Component) (l : Coded) (p : Prepared) → slice_get (components s) x ≡ Some c → slice_get ls x ≡ Some l → slice_get ps x ≡ Some p
      → IsPrepared s c l p

-- the empty slots of all leaves, over accounts that are made from the scenario's plan
pub record AreFirstSlots (s : Scenario) (t : Slots) : Type 0 where
  pub parents : List ℕ
  pub nodes : List NodeState
  pub leaves : List ℕ
  pub objects : List ℕ
  pub plan : IsPlanOf s parents nodes leaves objects
  pub trades : IsFirst s.total.ram (caps_of s) parents nodes leaves objects room t.trades
  pub own : t.own ≡ replicate (length leaves) (replicate 64 Empty)
  pub heaps : AreNew (length leaves) t.heaps
