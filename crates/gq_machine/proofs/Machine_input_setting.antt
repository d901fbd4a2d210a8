-- A leaf with another value of an input.
use Rattle.std.proofs.Common.{◌≡◌, ℕ, zero, suc, ◌<◌, inl, inr, true, cond, List, [], ◌∷◌, length, Option, Some, None, refl, ap, sym, ◌∙◌, subst}
use Rattle.std.specs.Prelude.{slice_get, slice_set}
use Rattle.std.proofs.lemmas.Bool.Decides.{eqb_tells}
use Rattle.gq_model.specs.declared.phase.Phase.{Phase}
use Rattle.gq_model.specs.declared.phase.Phase.TheVariants as phase
use Rattle.gq_model.specs.machine.Run.{is_within, inputs_with, set_in, set_input}
use Rattle.gq_model.specs.machine.Scenario.{Component, components, system}
use Rattle.gq_model.specs.machine.World as world
use Rattle.gq_model.specs.texts.Turns.{inputs_at}
use Rattle.gq_model.proofs.Small_facts.{set_there}
use Rattle.gq_laws.specs.Session_links.{IsLinkedWorld}
use Rattle.gq_laws.specs.Leaf_phases.{AreReady}
use Rattle.gq_laws.specs.Room.{IsRoomy}
use Rattle.gq_laws.proofs.input_settings.Setting_keeps_invariants.{set_linked, set_ready, set_roomy}
use Rattle.gq_slots.specs.Slots.{Slots}
use Rattle.gq_statements.specs.Systems.{AreLawful, IsOf, stage_in}
use Rattle.gq_leaf.specs.Coded.{Coded}
use Rattle.gq_leaf.specs.Leaf_states.{leaf_of}
use Rattle.gq_leaf.proofs.Leaf_stance_worlds.{here, there, shape, phase_is, leads}
use Rattle.gq_machine.specs.Machine_world.{frame_of, world_of}
use Rattle.gq_machine.specs.declared.machine_state.Fixed.{Fixed}
use Rattle.gq_machine.specs.declared.machine_state.MachineState.{MachineState}
use Rattle.gq_machine.specs.internal.Machine_invariant.{Holds}
use Rattle.gq_machine.proofs.Machine_leaf_frames.{elsewhere, leaf_at, leaf_else, leaf_set}
use Rattle.gq_machine.proofs.Machine_invariant_step.{SameCodes, codes_set, prepared_with}
use Rattle.gq_machine.proofs.Slot_system_kept.{of_kept, scene_self}
use Rattle.gq_machine.proofs.Stepping_leaf_facts.{standing}

-- the leaf with these inputs
abbrev pub with_inputs : Coded → List ℕ → Coded
with_inputs l inputs = record l { state = record l.state { registers = record l.state.registers { inputs = inputs } } }

module _ (f : Fixed) (m : MachineState) (holds : Holds f m) (lawful : AreLawful m.slots) (x : ℕ) (c : Component) (l : Coded)
    (ec : slice_get (components f.table) x ≡ Some c) (el : slice_get m.leaves.items x ≡ Some l) (i n : ℕ)
    (within : is_within (slice_get (inputs_at (slice_get (components f.table) x)) i) n ≡ true) where
  abbrev w : world.World
  w = world_of f.table m.leaves.items m.slots

  abbrev leaf : world.Leaf
  leaf = here (system f.table) (frame_of f.table m.leaves.items) m.slots x c l.state f.services.buffers lawful (standing f m holds lawful x c l ec el).stands

  leaf_there : slice_get w.leaves x ≡ Some leaf
  leaf_there = there (system f.table) (frame_of f.table m.leaves.items) m.slots x c l.state f.services.buffers lawful
      (standing f m holds lawful x c l ec el).stands

  leaf_shape : leaf ≡ record (leaf_of c.node.program l.state) { slots = leaf.slots; peaks = leaf.peaks }
  leaf_shape = shape (system f.table) (frame_of f.table m.leaves.items) m.slots x c l.state f.services.buffers lawful
      (standing f m holds lawful x c l ec el).stands

  -- what the definition makes of it
  is_set : set_input (system f.table) w x i n ≡ world.with_leaf w x (record leaf { inputs = inputs_with l.state.phase l.state.registers.inputs i n })
  is_set =
      (λ k. set_in w x i n (ec k) (leaf_there k))
      ∙ (ap (λ b. cond b (world.with_leaf w x (record leaf { inputs = inputs_with leaf.phase leaf.inputs i n })) w)
      (ap (λ o. is_within (slice_get (inputs_at o) i) n) (sym ec) ∙ within)
      ∙ ap (λ (y : world.Leaf). world.with_leaf w x (record leaf { inputs = inputs_with y.phase y.inputs i n })) leaf_shape)

  -- a leaf that has exited stays as it is
  pub stays_exited : l.state.phase ≡ phase.Exited → w ≡ set_input (system f.table) w x i n
  stays_exited exited =
      sym (is_set ∙ (ap (λ p. world.with_leaf w x (record leaf { inputs = inputs_with p l.state.registers.inputs i n })) exited
      ∙ (ap (λ (y : world.Leaf). world.with_leaf w x (record leaf { inputs = y.inputs })) (sym leaf_shape)
      ∙ ap (λ leaves. record w { leaves = leaves }) (set_there w.leaves x leaf leaf_there))))

  module _ (s : MachineState) (leaves : s.leaves.items ≡ slice_set m.leaves.items x (with_inputs l (slice_set l.state.registers.inputs i n)))
      (slots : s.slots ≡ m.slots) (live : inputs_with l.state.phase l.state.registers.inputs i n ≡ slice_set l.state.registers.inputs i n) where
    abbrev new : Coded
    new = with_inputs l (slice_set l.state.registers.inputs i n)

    abbrev set : List Coded
    set = slice_set m.leaves.items x new

    world_with : world_of f.table set m.slots ≡ world.with_leaf w x (record leaf { inputs = slice_set l.state.registers.inputs i n })
    world_with =
        sym (leads (system f.table) (frame_of f.table m.leaves.items) m.slots x c l.state f.services.buffers lawful
        (standing f m holds lawful x c l ec el).stands (frame_of f.table set) (record leaf { inputs = slice_set l.state.registers.inputs i n })
        (elsewhere f.table m.leaves.items x new)
        (ap (λ (y : world.Leaf). record y { inputs = slice_set l.state.registers.inputs i n }) leaf_shape
        ∙ sym (ap (λ (y : world.Leaf). record y { slots = leaf.slots; peaks = leaf.peaks }) (leaf_set f.table m.leaves.items x c l new ec el))))

    pub set_is : world_of f.table s.leaves.items s.slots ≡ set_input (system f.table) w x i n
    set_is =
        (λ k. world_of f.table (leaves k) (slots k))
        ∙ (world_with ∙ sym (is_set ∙ ap (λ inputs. world.with_leaf w x (record leaf { inputs = inputs })) live))

    stages : (y : ℕ) → y < length m.slots.own → stage_in ((frame_of f.table set).leaf y).phase ≡ stage_in ((frame_of f.table m.leaves.items).leaf y).phase
    stages y less = elim (eqb_tells y x) [
      | inl t ↦ ap (λ z. stage_in ((frame_of f.table set).leaf z).phase) t.1
          ∙ ap (λ (k : world.Leaf). stage_in k.phase) (leaf_set f.table m.leaves.items x c l new ec el)
          ∙ sym (ap (λ (k : world.Leaf). stage_in k.phase) (leaf_at f.table m.leaves.items x c l ec el))
          ∙ sym (ap (λ z. stage_in ((frame_of f.table m.leaves.items).leaf z).phase) t.1)
      | inr t ↦ ap (λ (k : world.Leaf). stage_in k.phase) (leaf_else f.table m.leaves.items x y new t.1)
    ]

    of_set : IsOf (system f.table) (frame_of f.table s.leaves.items) s.slots
    of_set =
        subst (λ (t : Slots). IsOf (system f.table) (frame_of f.table s.leaves.items) t) (sym slots)
        (subst (λ (ls : List Coded). IsOf (system f.table) (frame_of f.table ls) m.slots) (sym leaves)
        (of_kept (system f.table) (frame_of f.table m.leaves.items) (frame_of f.table set) m.slots m.slots lawful lawful (scene_self m.slots) stages holds.of))

    pub holds_set : Holds f s
    holds_set =
        let codes : SameCodes m.leaves.items s.leaves.items =
        subst (SameCodes m.leaves.items) (sym leaves) (codes_set m.leaves.items x l new el refl) in
        record {
          ready = holds.ready;
          services = holds.services;
          count = codes.count ∙ holds.count;
          count_prepared = holds.count_prepared;
          prepared = λ y d k p ed ek ep.
              let old = codes.code y k ek in prepared_with f.table d old.0 k p old.2 (holds.prepared y d old.0 p ed old.1 ep);
          nodes = subst (λ (t : Slots). Rattle.gq_prepared.specs.Account_nodes.AreNodesOf f.table t.trades) (sym slots) holds.nodes;
          room_is = ap (λ (t : Slots). t.trades.trading.room) slots ∙ holds.room_is;
          of = of_set;
          linked = subst (IsLinkedWorld (system f.table)) (sym set_is) (set_linked (system f.table) w x i n holds.linked);
          roomy = subst IsRoomy (sym set_is) (set_roomy (system f.table) w x i n holds.roomy);
          phases = subst (AreReady (system f.table)) (sym set_is) (set_ready (system f.table) w x i n holds.phases);
        }
