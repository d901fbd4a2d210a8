-- The end of `main` of a leaf that provides nothing and has no signals.
use Rattle.std.proofs.Common.{◌≡◌, ◌+◌, ◌<◌, ◌^◌, ℕ, List, Option, Some, None, refl, sym, ap, subst, ◌∙◌, rules}
use Rattle.std.specs.Prelude.{Err, Ok, Result, slice_get}
use Rattle.gq_model.specs.declared.fault.Wrong.{Wrong}
use Rattle.gq_model.specs.declared.phase.Phase.TheVariants as phase
use Rattle.gq_model.specs.machine.Doing.{Doing, Finished}
use Rattle.gq_model.specs.machine.Scenario.{Component, components, system}
use Rattle.gq_model.specs.machine.Step.{main_ended, next, released, section_ended}
use Rattle.gq_model.specs.machine.World as world
use Rattle.gq_model.proofs.Small_facts.{some_same}
use Rattle.gq_bytecode.specs.declared.operation.Operation.TheVariants as operation
use Rattle.gq_bytecode.specs.Nexts.{Active}
use Rattle.gq_statements.proofs.linked.Ended_leaves.{no_sessions}
use Rattle.gq_slots.specs.Slots.{AreLong, Frame, Slots, world_seen}
use Rattle.gq_slots.specs.Session_calls.{EndsLeaf}
use Rattle.gq_statements.specs.Systems.{AreLawful, IsOf}
use Rattle.gq_prepared.specs.Account_nodes.{AreNodesOf}
use Rattle.gq_trade.specs.Trades.{IsLive}
use Rattle.gq_statements.specs.Serving.{IsAloneWithoutLinks, IsReleased, finished}
use Rattle.gq_prepared.proofs.ending_laws.Ended_leaf_nodes.{nodes_then, of_then}
use Rattle.gq_statements.specs.Slot_statements.{current_seen}
use Rattle.gq_leaf.specs.Leaf_states.{leaf_of}
use Rattle.gq_leaf.specs.Coded.{Coded, operation_of}
use Rattle.gq_leaf.specs.Section_steps.{IsGone}
use Rattle.gq_leaf.proofs.Section_start_exit.{exits}
use Rattle.gq_leaf.proofs.Section_end_step.{end_is}
use Rattle.gq_leaf.proofs.Leaf_stance_worlds.{first}
use Rattle.gq_machine.specs.Machine_world.{frame_of, world_of}
use Rattle.gq_machine.specs.declared.machine_state.Fixed.{Fixed}
use Rattle.gq_machine.specs.declared.machine_state.MachineState.{MachineState}
use Rattle.gq_machine.specs.internal.Endings.{AreGone}
use Rattle.gq_machine.specs.internal.Machine_invariant.{CanStep, EndsMain, Goes, HasNone, Holds, IsNext, OfLeaf}
use Rattle.gq_machine.proofs.Exited_leaf_successors.{codes_gone, frame_gone, gone_frame, is_gone, provides_nothing, room_then}
use Rattle.gq_machine.proofs.Machine_leaf_frames.{leaf_at}
use Rattle.gq_machine.proofs.Machine_invariant_step.{kept}
use Rattle.gq_machine.proofs.Stepping_leaf_facts.{active_awake, active_live, live, of_leaf, standing}
use Rattle.gq_machine.proofs.main_end.exit.Goals as goal

none_had : (o : Option Component) (c : Component) → o ≡ Some c → HasNone o → (c.node.provides ≡ None) × (c.node.signals ≡ 0)
none_had None c e h = absurd h
none_had (Some d) c e h = subst (λ (b : Component). (b.node.provides ≡ None) × (b.node.signals ≡ 0)) (some_same e) h

module _ (f : Fixed) (m : MachineState) (x : ℕ) (can : CanStep f m x) (goes : IsNext m x operation.End) (ends : EndsMain f m x) (l : AreLawful m.slots) where
  abbrev own : Component
  own = can.component

  abbrev leaf : Coded
  leaf = can.leaf

  abbrev ls : List Coded
  ls = m.leaves.items

  abbrev frame : Frame
  frame = frame_of f.table ls

  active : Active leaf.state.phase
  active = of_leaf (λ l. Active l.state.phase) (slice_get ls x) leaf can.leaf_is goes.active

  end : operation_of leaf ≡ Some operation.End
  end = of_leaf (λ l. operation_of l ≡ Some operation.End) (slice_get ls x) leaf can.leaf_is goes.next

  current : leaf.state.current ≡ None
  current = of_leaf (λ l. l.state.current ≡ None) (slice_get ls x) leaf can.leaf_is ends.main.no_request

  reacting : leaf.state.reacting ≡ None
  reacting = of_leaf (λ l. l.state.reacting ≡ None) (slice_get ls x) leaf can.leaf_is ends.main.no_signal

  provides : own.node.provides ≡ None
  provides = (none_had (slice_get (components f.table) x) own can.component_is ends.provides).0

  signals : own.node.signals ≡ 0
  signals = (none_had (slice_get (components f.table) x) own can.component_is ends.provides).1

  at : frame.leaf x ≡ leaf_of own.node.program leaf.state
  at = leaf_at f.table ls x own leaf can.component_is can.leaf_is

  pub is_live : IsLive m.slots.trades x
  is_live = live f m can.holds l x own leaf can.component_is can.leaf_is (active_live leaf.state.phase active)

  pub alone : AreLong m.slots → IsAloneWithoutLinks m.slots x
  alone long no_link =
      no_sessions (system f.table) frame m.slots l can.holds.linked long x
      (λ e. active_awake leaf.state.phase active (sym (ap (λ (y : world.Leaf). y.phase) at) ∙ e)) no_link
      (provides_nothing f.table can.holds.ready x own can.component_is provides)

  -- the step, where the leaf has exited in the frame g
  pub step_in : (g : Frame) → IsGone (system f.table) frame g x own leaf.state → (result : Result (Unit {0}) Wrong) (u : Slots)
      → ((h : Frame) (d : Doing) → d.x ≡ x → IsReleased d h m.slots → main_ended d None 0 ≡ finished result (world_seen h u))
      → next (system f.table) (world_of f.table ls m.slots) x ≡ finished result (world_seen g u)
  step_in g gone result u ended =
      let bs = f.services.buffers in
      let st = standing f m can.holds l x own leaf can.component_is can.leaf_is in
      let d = first (system f.table) frame m.slots x own leaf.state bs l st.stands in
      end_is (system f.table) frame m.slots x own leaf bs l st active end
      ∙ (λ k. section_ended d (current_seen (current k)) (reacting k)) ∙ (λ k. main_ended d (provides k) (signals k))
      ∙ ended g d refl (exits (system f.table) frame m.slots x own leaf bs l st g gone.names (sym st.stands.of.count) gone.exits gone.others)

  -- the frame in which it has exited, if it has
  pub fails : (wrong : Wrong) (u : Slots)
      → ((h : Frame) (d : Doing) → d.x ≡ x → IsReleased d h m.slots → main_ended d None 0 ≡ finished (Err wrong) (world_seen h u))
      → next (system f.table) (world_of f.table ls m.slots) x ≡ Err wrong
  fails wrong u ended =
      step_in (gone_frame (system f.table) frame x own leaf.state) (frame_gone (system f.table) frame x own leaf.state) (Err wrong) u ended

  module _ (ms : List Coded) (u : Slots) (gone : AreGone f.table x ls ms) where
    abbrev later : Frame
    later = frame_of f.table ms

    is : IsGone (system f.table) frame later x own leaf.state
    is = is_gone f.table x ls ms can.holds.count gone can.holds.ready.resolved.differ own leaf can.component_is can.leaf_is

    pub exited_step : ((h : Frame) (d : Doing) → d.x ≡ x → IsReleased d h m.slots → main_ended d None 0 ≡ finished (Ok tt) (world_seen h u))
        → next (system f.table) (world_of f.table ls m.slots) x ≡ finished (Ok tt) (world_of f.table ms u)
    exited_step = step_in later is (Ok tt) u

    phases : (y : ℕ) (d : Component) → (y ≡ x → ⊥) → slice_get (components f.table) y ≡ Some d
        → (later.leaf y).phase ≡ released own.node.name d.node.after (frame.leaf y).phase
    phases y d other there = ap (λ (z : world.Leaf). z.phase) (is.others y d other there)

    exited_phase : (later.leaf x).phase ≡ phase.Exited
    exited_phase = ap (λ (z : world.Leaf). z.phase) is.exits

    exited_nodes : AreLawful u → EndsLeaf m.slots u x → AreNodesOf f.table u.trades
    exited_nodes after left =
        nodes_then f.table frame later m.slots u x own can.holds.ready l after can.holds.nodes can.holds.of can.component_is is_live left exited_phase phases

    exited_of : AreLawful u → EndsLeaf m.slots u x → IsOf (system f.table) later u
    exited_of after left =
        of_then f.table frame later m.slots u x own can.holds.ready l after can.holds.nodes can.holds.of can.component_is is_live left exited_phase phases

  pub exited_holds : (n : MachineState) → AreGone f.table x ls n.leaves.items → AreLawful n.slots → EndsLeaf m.slots n.slots x → Goes f x m n (finished (Ok tt))
      → Holds f n
  exited_holds n gone after left step =
      kept f m n x Finished can.holds (codes_gone f.table x ls n.leaves.items can.holds.count gone) (exited_nodes n.leaves.items n.slots gone after left)
      (room_then m.slots n.slots x left ∙ can.holds.room_is) (exited_of n.leaves.items n.slots gone after left) step

pub exit-requires-clause-live : goal.exit-requires-clause-live
exit-requires-clause-live c = is_live c.args.fixed.now c.args.state.now c.args.number c.requires.does.can c.requires.does.next c.requires.ends c.lawful.ensures

pub exit-requires-clause-alone : goal.exit-requires-clause-alone
exit-requires-clause-alone c =
    alone c.args.fixed.now c.args.state.now c.args.number c.requires.does.can c.requires.does.next c.requires.ends c.lawful.ensures c.laws.ensures.long

pub leave-requires-clause-count : goal.leave-requires-clause-count
leave-requires-clause-count c = c.requires.does.can.holds.count

pub leave-requires-clause-countable : goal.leave-requires-clause-countable
leave-requires-clause-countable c = subst (OfLeaf (λ l. l.state.steps + 1 < 2 ^ 64)) (sym c.requires.does.can.leaf_is) c.requires.does.can.countable

pub returns-in-Err-clause-step : goal.returns-in-Err-clause-step
returns-in-Err-clause-step c =
    fails c.args.fixed.now c.args.state.now c.args.number c.requires.does.can c.requires.does.next c.requires.ends c.lawful.ensures c.in-Err.wrong
    c.exit.new.slots
    c.in-Err.ensures.ended

pub returns-in-Ok-clause-step : goal.returns-in-Ok-clause-step
returns-in-Ok-clause-step c =
    exited_step c.args.fixed.now c.args.state.now c.args.number c.requires.does.can c.requires.does.next c.requires.ends c.lawful.ensures
    c.leave.new.leaves.items
    c.exit.new.slots c.leave.ensures c.in-Ok.ensures.ended

pub returns-in-Ok-clause-leaves : goal.returns-in-Ok-clause-leaves
returns-in-Ok-clause-leaves c =
    record {
      holds =
          exited_holds c.args.fixed.now c.args.state.now c.args.number c.requires.does.can c.requires.does.next c.requires.ends c.lawful.ensures _
          c.leave.ensures
          c.lawful-in-Ok.ensures c.in-Ok.ensures.ends (returns-in-Ok-clause-step c);
      leaves = search rules;
      slots = search rules;
    }
