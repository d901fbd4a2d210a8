-- What holds of a machine holds where its world stays.
use Rattle.std.proofs.Common.{◌≡◌, Result, Ok, Err, length, sym, ap, subst, ◌∙◌}
use Rattle.std.specs.Prelude.{OnErr, OnOk, slice_get}
use Rattle.gq_model.specs.declared.fault.Wrong.{Wrong}
use Rattle.gq_model.specs.machine.Scenario.{system}
use Rattle.gq_laws.specs.Session_links.{IsLinkedWorld}
use Rattle.gq_laws.specs.Room.{IsRoomy}
use Rattle.gq_laws.specs.Leaf_phases.{AreReady}
use Rattle.gq_slots.specs.Slots.{Slots}
use Rattle.gq_statements.specs.Systems.{IsOf}
use Rattle.gq_prepared.specs.Account_nodes.{AreNodesOf}
use Rattle.gq_machine.specs.Machine_world.{frame_of, world_of}
use Rattle.gq_machine.specs.declared.machine_state.Fixed.{Fixed}
use Rattle.gq_machine.specs.declared.machine_state.MachineState.{MachineState}
use Rattle.gq_machine.specs.internal.Machine_invariant.{Holds}
use Rattle.gq_machine.proofs.Machine_invariant_step.{SameCodes, prepared_with}

-- the same leaves and slots
pub holds_same : (f : Fixed) (m n : MachineState) → n.leaves.items ≡ m.leaves.items → n.slots ≡ m.slots → Holds f m → Holds f n
holds_same f m n e g h =
    let w : world_of f.table n.leaves.items n.slots ≡ world_of f.table m.leaves.items m.slots = λ i. world_of f.table (e i) (g i) in
    record {
      ready = h.ready;
      services = h.services;
      count = ap length e ∙ h.count;
      count_prepared = h.count_prepared;
      prepared = λ y c l p ec el ep. h.prepared y c l p ec (ap (λ ls. slice_get ls y) (sym e) ∙ el) ep;
      nodes = subst (λ (t : Slots). AreNodesOf f.table t.trades) (sym g) h.nodes;
      room_is = ap (λ (t : Slots). t.trades.trading.room) g ∙ h.room_is;
      of = subst (λ (t : Slots). IsOf (system f.table) (frame_of f.table n.leaves.items) t) (sym g)
          (subst (λ ls. IsOf (system f.table) (frame_of f.table ls) m.slots) (sym e) h.of);
      linked = subst (IsLinkedWorld (system f.table)) (sym w) h.linked;
      roomy = subst IsRoomy (sym w) h.roomy;
      phases = subst (AreReady (system f.table)) (sym w) h.phases;
    }

-- the same world, with leaves that have the same code
pub holds_still : (f : Fixed) (m n : MachineState) → SameCodes m.leaves.items n.leaves.items → n.slots ≡ m.slots
    → IsOf (system f.table) (frame_of f.table n.leaves.items) n.slots
    → world_of f.table n.leaves.items n.slots ≡ world_of f.table m.leaves.items m.slots → Holds f m → Holds f n
holds_still f m n codes g of w h =
    record {
      ready = h.ready;
      services = h.services;
      count = codes.count ∙ h.count;
      count_prepared = h.count_prepared;
      prepared = λ y c l p ec el ep. let old = codes.code y l el in prepared_with f.table c old.0 l p old.2 (h.prepared y c old.0 p ec old.1 ep);
      nodes = subst (λ (t : Slots). AreNodesOf f.table t.trades) (sym g) h.nodes;
      room_is = ap (λ (t : Slots). t.trades.trading.room) g ∙ h.room_is;
      of = of;
      linked = subst (IsLinkedWorld (system f.table)) (sym w) h.linked;
      roomy = subst IsRoomy (sym w) h.roomy;
      phases = subst (AreReady (system f.table)) (sym w) h.phases;
    }

-- what holds where a call has done it, and where it has left all as it was
pub from_err : {A : Type 0} (r : Result A Wrong) (P E F : Type 0) → OnOk r P → OnErr r E → OnErr r F → (E → F → P) → P
from_err (Ok a) P E F h e g k = h
from_err (Err wrong) P E F h e g k = k e g
