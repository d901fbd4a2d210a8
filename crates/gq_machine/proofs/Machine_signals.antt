-- Signals of a machine's leaves: taken and submitted.
use Rattle.std.proofs.Common.{◌≡◌, ◌<◌, ◌≤◌, ℕ, zero, suc, inl, inr, Bool, true, false, ◌||◌, List, Option, Some, None, length, get_or}
use Rattle.std.proofs.Common.{is_some, option_map, refl, sym, ap, subst, ◌∙◌, arith}
use Rattle.std.specs.Prelude.{IfSome, nat_lt, slice_get, slice_set}
use Rattle.std.proofs.lemmas.Bool.{le-leb, lt-ltb}
use Rattle.std.proofs.lemmas.Bool.Decides.{eqb_tells}
use Rattle.std.proofs.lemmas.Option.{slice_get_within}
use Rattle.gq_model.specs.declared.phase.Phase.{Phase}
use Rattle.gq_model.specs.declared.phase.Phase.TheVariants as phase
use Rattle.gq_model.specs.declared.section.Section.TheVariants.{Reacting}
use Rattle.gq_model.specs.machine.Program.{Statements, section_in}
use Rattle.gq_model.specs.machine.Run.{signals_with, submit, submit_in}
use Rattle.gq_model.specs.machine.Scenario.{Component, components, system}
use Rattle.gq_model.specs.machine.Sections.{is_section, section_number}
use Rattle.gq_model.specs.machine.World as world
use Rattle.gq_model.specs.texts.Turns.{signals_at}
use Rattle.gq_model.proofs.Small_facts.{get_within, none_some, set_there}
use Rattle.gq_laws.specs.Session_links.{Fits, IsLinkedWorld}
use Rattle.gq_laws.specs.Leaf_phases.{AreReady, serves}
use Rattle.gq_laws.specs.Room.{IsRoomy}
use Rattle.gq_laws.proofs.input_settings.Setting_keeps_invariants.{submit_linked, submit_ready, submit_roomy}
use Rattle.gq_prepared.specs.Account_nodes.{AreNodesOf}
use Rattle.gq_slots.specs.Slots.{Slots}
use Rattle.gq_statements.proofs.linked.Stored_world_links.{stance_is}
use Rattle.gq_statements.specs.Slot_statements.{current_seen}
use Rattle.gq_statements.specs.Systems.{AreLawful, IsOf, stage_in}
use Rattle.gq_statements.specs.declared.actor.Current.{Current}
use Rattle.gq_leaf.specs.Coded.{Coded}
use Rattle.gq_leaf.specs.Leaf_states.{leaf_of}
use Rattle.gq_leaf.specs.Section_boundaries.{submitted}
use Rattle.gq_leaf.proofs.Signal_counts.{none_submitted}
use Rattle.gq_machine.specs.Machine_world.{frame_of, world_of}
use Rattle.gq_machine.specs.declared.machine_state.Fixed.{Fixed}
use Rattle.gq_machine.specs.declared.machine_state.MachineState.{MachineState}
use Rattle.gq_machine.specs.declared.machine_state.Prepared.{Prepared}
use Rattle.gq_machine.specs.internal.Machine_invariant.{HasNone, Holds, ServesOn}
use Rattle.gq_machine.proofs.Machine_leaf_frames.{leaf_at, leaf_else, leaf_set}
use Rattle.gq_machine.proofs.Machine_invariant_step.{SameCodes, codes_set, prepared_with}
use Rattle.gq_machine.proofs.Slot_system_kept.{of_kept, scene_self}
use Rattle.gq_machine.proofs.Stepping_leaf_facts.{below, item_there}

abbrev Signals : Type 0
Signals = List world.Signal

-- THE FIRST SIGNAL

pub first_found : (o : Option (ℕ × Signals)) (i : ℕ) → option_map (λ p. p.0) o ≡ Some i → (signals : Signals) × (o ≡ Some (i, signals))
first_found None i e = absurd cc
first_found (Some p) i e = (p.1, ap (λ (q : Option ℕ). Some (get q, p.1)) e)
  where
    get : Option ℕ → ℕ
    get None = 0
    get (Some n) = n

pub none_found : (o : Option (ℕ × Signals)) → option_map (λ p. p.0) o ≡ None → o ≡ None
none_found None e = refl
none_found (Some p) e = absurd cc

-- SECTIONS

pub body_there : (o : Option Statements) → is_some o ≡ true → (body : Statements) × (o ≡ Some body)
body_there None e = absurd cc
body_there (Some body) e = (body, refl)

pub none_there : (o : Option Statements) → is_some o ≡ false → o ≡ None
none_there None e = refl
none_there (Some body) e = absurd cc

pub is_reacting : (i : ℕ) → i < 3 → is_section (Reacting i) ≡ true
is_reacting i less = le-leb i 2 (omega (arith, less))

-- what is prepared of a leaf reports whether its program has the section for a signal
pub section_reported : (f : Fixed) (m : MachineState) (h : Holds f m) (x : ℕ) (c : Component) (l : Coded) (p : Prepared) (i : ℕ)
    → slice_get (components f.table) x ≡ Some c → slice_get m.leaves.items x ≡ Some l → p ≡ get_or f.prepared.items x p → i < 3
    → get_or p.sections (section_number (Reacting i)) false ≡ is_some (section_in (Reacting i) c.node.program.sections)
section_reported f m h x c l p i ec el is less =
    let within = slice_get_within (components f.table) x c ec in
    let count = h.count_prepared in
    let a = get_within f.prepared.items x (omega (arith, within, count)) in
    (h.prepared x c l p ec el (item_there f.prepared.items x a.0 p a.1 is)).sections (Reacting i) (is_reacting i less)

-- a leaf that serves has no current request
no_request : (p : Phase) (o : Option world.Current) → p ≡ phase.Serving → Fits p o → o ≡ None
no_request phase.Serving None e fits = refl
no_request phase.Serving (Some current) e fits = absurd fits
no_request phase.Pending o e fits = cc
no_request phase.Running o e fits = cc
no_request phase.Blocked o e fits = cc
no_request phase.Handling o e fits = cc
no_request phase.Exited o e fits = cc

unseen : (o : Option Current) → current_seen o ≡ None → o ≡ None
unseen None e = refl
unseen (Some h) e = absurd cc

pub serves_alone : (f : Fixed) (m : MachineState) (h : Holds f m) → AreLawful m.slots → (x : ℕ) (c : Component) (l : Coded)
    → slice_get (components f.table) x ≡ Some c → slice_get m.leaves.items x ≡ Some l → l.state.phase ≡ phase.Serving → l.state.current ≡ None
serves_alone f m h lawful x c l ec el serves =
    let frame = frame_of f.table m.leaves.items in
    let at = leaf_at f.table m.leaves.items x c l ec el in
    let fits = h.linked.fits x _ (stance_is frame m.slots x lawful (below f m h lawful x c ec)) in
    unseen l.state.current (sym (ap (λ (y : world.Leaf). y.current) at)
    ∙ no_request (frame.leaf x).phase (frame.leaf x).current (ap (λ (y : world.Leaf). y.phase) at ∙ serves) fits)

-- WHO SERVES AFTER `MAIN`

none_of_either : (provides : Option (List ℕ)) (signals : ℕ) → serves provides signals ≡ false → (provides ≡ None) × (signals ≡ 0)
none_of_either None zero e = (refl, refl)
none_of_either None (suc n) e =
    let some : nat_lt 0 (suc n) ≡ true = lt-ltb 0 (suc n) (omega arith) in let bad : ◌≡◌ {A = Bool} true false = sym some ∙ e in absurd cc
none_of_either (Some service) n e = absurd cc

pub has_none : (o : Option Component) (c : Component) (b : Bool) → o ≡ Some c → IfSome o (λ d. b ≡ serves d.node.provides d.node.signals) → b ≡ false
    → HasNone o
has_none None c b e h is = absurd (none_some e)
has_none (Some d) c b e h is = none_of_either d.node.provides d.node.signals (sym h ∙ is)

pub serves_some : (o : Option Component) (c : Component) (b : Bool) → o ≡ Some c → IfSome o (λ d. b ≡ serves d.node.provides d.node.signals) → b ≡ true
    → ServesOn o
serves_some None c b e h is = absurd (none_some e)
serves_some (Some d) c b e h is = sym h ∙ is

-- one that provides a service
pub serves_provided : (o : Option Component) (b : Bool) → IfSome o (λ d. b ≡ is_some d.node.provides) → b ≡ true
    → IfSome o (λ d. true ≡ serves d.node.provides d.node.signals)
serves_provided None b h is = tt
serves_provided (Some d) b h is = ap (λ p. p || nat_lt 0 d.node.signals) (sym is ∙ h)

-- and one that provides none, by how many signals it has
pub serves_signalled : (o : Option Component) (b : Bool) (n : ℕ) → IfSome o (λ d. b ≡ is_some d.node.provides) → b ≡ false → n ≡ signals_at o
    → IfSome o (λ d. nat_lt 0 n ≡ serves d.node.provides d.node.signals)
serves_signalled None b n h is e = tt
serves_signalled (Some d) b n h is e = ap (nat_lt 0) e ∙ ap (λ p. p || nat_lt 0 d.node.signals) (sym is ∙ h)

-- A SIGNAL THAT IS SUBMITTED

-- one that the leaf has not changes nothing
pub submit_none : (w : world.World) (x i : ℕ) → IfSome (slice_get w.leaves x) (λ (l : world.Leaf). length l.signals ≤ i) → submit w x i ≡ w
submit_none w x i h = by (slice_get w.leaves x) refl h
  where
    by : (o : Option world.Leaf) → slice_get w.leaves x ≡ o → IfSome o (λ (l : world.Leaf). length l.signals ≤ i) → submit_in w x i o ≡ w
    by None e few = refl
    by (Some leaf) e few =
        ap (λ signals. world.with_leaf w x (record leaf { signals = signals })) (none_submitted leaf.signals i few)
        ∙ ap (λ leaves. record w { leaves = leaves }) (set_there w.leaves x leaf e)

module _ (f : Fixed) (m : MachineState) (holds : Holds f m) (lawful : AreLawful m.slots) (x : ℕ) (c : Component) (l : Coded)
    (ec : slice_get (components f.table) x ≡ Some c) (el : slice_get m.leaves.items x ≡ Some l) (i : ℕ) (s : MachineState) (new : Coded)
    (is : new ≡ record l { state = submitted l.state i }) (leaves : s.leaves.items ≡ slice_set m.leaves.items x new) (slots : s.slots ≡ m.slots)
    (done : world_of f.table s.leaves.items s.slots ≡ submit (world_of f.table m.leaves.items m.slots) x i) where
  abbrev set : List Coded
  set = slice_set m.leaves.items x new

  stages : (y : ℕ) → y < length m.slots.own → stage_in ((frame_of f.table set).leaf y).phase ≡ stage_in ((frame_of f.table m.leaves.items).leaf y).phase
  stages y less = elim (eqb_tells y x) [
    | inl t ↦ ap (λ z. stage_in ((frame_of f.table set).leaf z).phase) t.1
        ∙ ap (λ (k : world.Leaf). stage_in k.phase) (leaf_set f.table m.leaves.items x c l new ec el)
        ∙ ap (λ (k : Coded). stage_in k.state.phase) is
        ∙ sym (ap (λ (k : world.Leaf). stage_in k.phase) (leaf_at f.table m.leaves.items x c l ec el))
        ∙ sym (ap (λ z. stage_in ((frame_of f.table m.leaves.items).leaf z).phase) t.1)
    | inr t ↦ ap (λ (k : world.Leaf). stage_in k.phase) (leaf_else f.table m.leaves.items x y new t.1)
  ]

  of_set : IsOf (system f.table) (frame_of f.table s.leaves.items) s.slots
  of_set =
      subst (λ (t : Slots). IsOf (system f.table) (frame_of f.table s.leaves.items) t) (sym slots)
      (subst (λ (ls : List Coded). IsOf (system f.table) (frame_of f.table ls) m.slots) (sym leaves)
      (of_kept (system f.table) (frame_of f.table m.leaves.items) (frame_of f.table set) m.slots m.slots lawful lawful (scene_self m.slots) stages holds.of))

  pub holds_submitted : Holds f s
  holds_submitted =
      let w = world_of f.table m.leaves.items m.slots in
      let codes : SameCodes m.leaves.items s.leaves.items =
      subst (SameCodes m.leaves.items) (sym leaves) (codes_set m.leaves.items x l new el (ap (λ (k : Coded). k.code) is)) in
      record {
        ready = holds.ready;
        services = holds.services;
        count = codes.count ∙ holds.count;
        count_prepared = holds.count_prepared;
        prepared = λ y d k p ed ek ep.
            let old = codes.code y k ek in prepared_with f.table d old.0 k p old.2 (holds.prepared y d old.0 p ed old.1 ep);
        nodes = subst (λ (t : Slots). AreNodesOf f.table t.trades) (sym slots) holds.nodes;
        room_is = ap (λ (t : Slots). t.trades.trading.room) slots ∙ holds.room_is;
        of = of_set;
        linked = subst (IsLinkedWorld (system f.table)) (sym done) (submit_linked (system f.table) w x i holds.linked);
        roomy = subst IsRoomy (sym done) (submit_roomy w x i holds.roomy);
        phases = subst (AreReady (system f.table)) (sym done) (submit_ready (system f.table) w x i holds.phases);
      }
