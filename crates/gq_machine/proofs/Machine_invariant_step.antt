-- A step keeps what holds of a machine.
use Rattle.std.proofs.Common.{◌≡◌, ◌<◌, ℕ, inl, inr, List, Some, Ok, length, refl, sym, ap, subst, ◌∙◌}
use Rattle.std.specs.Prelude.{slice_get, slice_set, is_some}
use Rattle.std.proofs.lemmas.Bool.Decides.{eqb_tells}
use Rattle.gq_model.specs.machine.Doing.{Event}
use Rattle.gq_model.specs.machine.Scenario.{Scenario, Component, components, system}
use Rattle.gq_model.specs.machine.World as world
use Rattle.gq_model.proofs.Small_facts.{some_same}
use Rattle.gq_bytecode.specs.Programs.{IsCodeOfProgram, ProgramCode}
use Rattle.gq_laws.specs.Session_links.{IsLinkedWorld, stance, stance_in}
use Rattle.gq_laws.proofs.session_links.Linked_worlds.{kept_linked}
use Rattle.gq_laws.proofs.session_links.Written_world_links.{set_else, set_here}
use Rattle.gq_laws.proofs.progress.Leaf_phase_invariant.{CurrentProvides, kept_ready}
use Rattle.gq_laws.specs.Ready.{IsReady}
use Rattle.gq_laws.proofs.ready.Routed_leaf_services.{provided}
use Rattle.gq_laws.proofs.room.Reply_room_invariant.{kept_roomy}
use Rattle.gq_statements.specs.Systems.{AreLawful, IsOf, stage_in}
use Rattle.gq_prepared.specs.Account_nodes.{AreNodesOf}
use Rattle.gq_prepared.specs.Prepared.{AreOpenings}
use Rattle.gq_leaf.specs.Coded.{Coded}
use Rattle.gq_machine.specs.Machine_world.{frame_of, world_of}
use Rattle.gq_machine.specs.declared.machine_state.Fixed.{Fixed}
use Rattle.gq_machine.specs.declared.machine_state.Prepared.{Prepared}
use Rattle.gq_machine.specs.declared.machine_state.MachineState.{MachineState}
use Rattle.gq_machine.specs.internal.Machine_invariant.{Goes, Holds, IsPrepared, room}
use Rattle.gq_machine.specs.internal.Scenes.{SameScene}
use Rattle.gq_machine.proofs.Machine_leaf_frames.{leaf_at, leaf_else, leaf_set}
use Rattle.gq_machine.proofs.Slot_system_kept.{nodes_kept, of_kept}

-- each leaf has the code that it had
pub record SameCodes (ls ms : List Coded) : Type 0 where
  pub count : length ms ≡ length ls
  pub code : (x : ℕ) (m : Coded) → slice_get ms x ≡ Some m → (l : Coded) × (slice_get ls x ≡ Some l) × (m.code ≡ l.code)

pub codes_set : (ls : List Coded) (x : ℕ) (old new : Coded) → slice_get ls x ≡ Some old → new.code ≡ old.code → SameCodes ls (slice_set ls x new)
codes_set ls x old new there same =
    record {
      count = Rattle.std.proofs.Math.ListN.length-set ls x new;
      code = λ y m e. elim (eqb_tells y x) [
        | inl t ↦
            let is : Some new ≡ Some m = sym (set_here ls x new old there) ∙ ap (slice_get (slice_set ls x new)) (sym t.1) ∙ e in
            (old, ap (slice_get ls) t.1 ∙ there, ap (λ (c : Coded). c.code) (sym (some_same is)) ∙ same)
        | inr t ↦ (m, sym (set_else ls x y new t.1) ∙ e, refl)
      ];
    }

pub codes_then : (ls ms ns : List Coded) → SameCodes ls ms → SameCodes ms ns → SameCodes ls ns
codes_then ls ms ns a b =
    record {
      count = b.count ∙ a.count;
      code = λ x n e. let p = b.code x n e in let q = a.code x p.0 p.1 in (q.0, q.1, p.2 ∙ q.2);
    }

pub prepared_with : (s : Scenario) (c : Component) (l m : Coded) (p : Prepared) → m.code ≡ l.code → IsPrepared s c l p → IsPrepared s c m p
prepared_with s c l m p e h =
    record {
      code = subst (λ (o : ProgramCode). IsCodeOfProgram o c.node.program.sections) (sym e) h.code;
      openings = subst (λ (o : ProgramCode). AreOpenings s c o p.openings.items) (sym e) h.openings;
      sections = h.sections;
    }

-- a leaf with a current request provides a service
pub current_provides : (s : Scenario) → IsReady s → (w : world.World) → IsLinkedWorld (system s) w → CurrentProvides (system s) w
current_provides s ready w linked x c leaf g placed there mine =
    let k = linked.handles x leaf.phase g (ap stance_in there ∙ ap (λ o. Some (stance leaf.phase o)) mine) in
    let r = linked.routed g.session k.0 k.1 in
    ap is_some (provided s k.0.client k.0.server r.0 c k.0.service ready r.1 r.2 (ap (slice_get (components s)) k.2 ∙ placed))

-- what holds of a machine holds after a step that keeps these
pub kept : (f : Fixed) (m n : MachineState) (x : ℕ) (event : Event) → Holds f m → SameCodes m.leaves.items n.leaves.items → AreNodesOf f.table n.slots.trades
    → n.slots.trades.trading.room ≡ room → IsOf (system f.table) (frame_of f.table n.leaves.items) n.slots
    → Goes f x m n (λ w. Ok (w, event)) → Holds f n
kept f m n x event h codes nodes roomy_is of goes =
    record {
      ready = h.ready;
      services = h.services;
      count = codes.count ∙ h.count;
      count_prepared = h.count_prepared;
      prepared = λ y c l p ec el ep.
          let old = codes.code y l el in prepared_with f.table c old.0 l p old.2 (h.prepared y c old.0 p ec old.1 ep);
      nodes = nodes;
      room_is = roomy_is;
      of = of;
      linked = kept_linked (system f.table) (world_of f.table m.leaves.items m.slots) x (world_of f.table n.leaves.items n.slots) event h.linked goes;
      phases = kept_ready (system f.table) (world_of f.table m.leaves.items m.slots) x (world_of f.table n.leaves.items n.slots) event h.phases
          (current_provides f.table h.ready (world_of f.table m.leaves.items m.slots) h.linked) goes;
      roomy = kept_roomy (system f.table) (world_of f.table m.leaves.items m.slots) x (world_of f.table n.leaves.items n.slots) event h.linked h.roomy goes;
    }

-- a step in which one leaf alone stands otherwise
pub kept_one : (f : Fixed) (m n : MachineState) (x : ℕ) (c : Component) (old new : Coded) (event : Event) → Holds f m → AreLawful m.slots → AreLawful n.slots
    → slice_get (components f.table) x ≡ Some c → slice_get m.leaves.items x ≡ Some old → n.leaves.items ≡ slice_set m.leaves.items x new
    → new.code ≡ old.code → stage_in new.state.phase ≡ stage_in old.state.phase → SameScene m.slots n.slots
    → Goes f x m n (λ w. Ok (w, event)) → Holds f n
kept_one f m n x c old new event h lm ln ec el is code stage scene goes =
    let set = slice_set m.leaves.items x new in
    let same : (y : ℕ) → y < length m.slots.own → stage_in ((frame_of f.table set).leaf y).phase ≡ stage_in ((frame_of f.table m.leaves.items).leaf y).phase =
    λ y less. elim (eqb_tells y x) [
      | inl t ↦ ap (λ z. stage_in ((frame_of f.table set).leaf z).phase) t.1
          ∙ ap (λ (l : world.Leaf). stage_in l.phase) (leaf_set f.table m.leaves.items x c old new ec el) ∙ stage
          ∙ sym (ap (λ (l : world.Leaf). stage_in l.phase) (leaf_at f.table m.leaves.items x c old ec el))
          ∙ sym (ap (λ z. stage_in ((frame_of f.table m.leaves.items).leaf z).phase) t.1)
      | inr t ↦ ap (λ (l : world.Leaf). stage_in l.phase) (leaf_else f.table m.leaves.items x y new t.1)
    ] in
    let of = of_kept (system f.table) (frame_of f.table m.leaves.items) (frame_of f.table set) m.slots n.slots lm ln scene same h.of in
    kept f m n x event h (subst (SameCodes m.leaves.items) (sym is) (codes_set m.leaves.items x old new el code))
    (nodes_kept f.table m.slots n.slots scene h.nodes)
    (scene.room ∙ h.room_is) (subst (λ (ls : List Coded). IsOf (system f.table) (frame_of f.table ls) n.slots) (sym is) of) goes
