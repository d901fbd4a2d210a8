-- A leaf that has exited, and who runs then.
use Rattle.std.proofs.Common.{◌≡◌, ℕ, inl, inr, Bool, true, false, cond, List, [], Option, Some, None, length, option_map, refl, sym, ap, ◌∙◌, arith}
use Rattle.std.specs.Prelude.{slice_get}
use Rattle.std.proofs.lemmas.Bool.Decides.{eqb_tells}
use Rattle.std.proofs.lemmas.Option.{slice_get_within}
use Rattle.gq_model.specs.declared.phase.Phase.{Phase}
use Rattle.gq_model.specs.declared.phase.Phase.TheVariants as phase
use Rattle.gq_model.specs.machine.Program.{Program, Statements, body_of, section_in, text_eq}
use Rattle.gq_model.specs.machine.Routes.{numbered}
use Rattle.gq_model.specs.machine.Scenario.{Scenario, System, Component, components, system}
use Rattle.gq_model.specs.machine.Step.{is_named, released}
use Rattle.gq_model.specs.machine.World as world
use Rattle.gq_model.proofs.Small_facts.{equal_self, get_within, none_some, not_both, some_none, some_same, text_is, text_self}
use Rattle.gq_laws.specs.Session_links.{Fits}
use Rattle.gq_laws.specs.Names.{NamesDiffer}
use Rattle.gq_laws.proofs.quota_payment.Routed_server_provides.{numbered_name}
use Rattle.gq_statements.specs.Linked.{ProvidesNothing}
use Rattle.gq_laws.specs.Ready.{IsReady}
use Rattle.gq_laws.proofs.ready.Routed_leaf_services.{provided}
use Rattle.gq_resolve.specs.NodeTables.{number_named}
use Rattle.gq_prepared.proofs.ending_laws.Start_after_nodes.{own_number}
use Rattle.gq_bytecode.specs.Nexts.{Active}
use Rattle.gq_bytecode.specs.Views.{state_of}
use Rattle.gq_trade.specs.Trading.{Trading, node_of}
use Rattle.gq_trade.specs.declared.trade_node.Stage.TheVariants.{Ended}
use Rattle.gq_trade.specs.Leaf_ends as trade
use Rattle.gq_trade.specs.Leaf_ends.{follower, is_number, staged}
use Rattle.gq_trade.specs.Trades.{Trades}
use Rattle.gq_slots.specs.Slots.{Frame, Slots}
use Rattle.gq_slots.specs.Session_calls.{EndsLeaf}
use Rattle.gq_statements.specs.Slot_statements.{current_seen}
use Rattle.gq_leaf.specs.Leaf_states.{LeafState, body_in, leaf_of, section_at}
use Rattle.gq_leaf.specs.Coded.{Coded}
use Rattle.gq_leaf.specs.Section_boundaries.{exited, released_by}
use Rattle.gq_leaf.specs.Section_steps.{IsGone}
use Rattle.gq_leaf.proofs.Leaf_stance_worlds.{set_else, set_here, setting}
use Rattle.gq_machine.specs.Machine_world.{frame_of}
use Rattle.gq_machine.specs.internal.Endings.{AreGone, follows, released_if, started}
use Rattle.gq_machine.proofs.Machine_leaf_frames.{leaf_at}
use Rattle.gq_machine.proofs.Machine_invariant_step.{SameCodes}

-- WHO STARTS AFTER A LEAF

numbered_else : (s : Scenario) → NamesDiffer s → (x : ℕ) (c : Component) (name : List ℕ) → slice_get (components s) x ≡ Some c
    → text_eq c.node.name name ≡ false → (o : Option ℕ) → numbered 0 name (components s) ≡ o → is_number x o ≡ false
numbered_else s differ x c name there other None e = refl
numbered_else s differ x c name there other (Some z) e = elim (eqb_tells z x) [
  | inl t ↦
      let n = numbered_name 0 name (components s) z e in
      let place = n.2 in
      let at : n.0 ≡ x = let same = t.1 in omega (arith, place, same) in
      let its : n.1 ≡ c = some_same (sym n.3 ∙ ap (slice_get (components s)) at ∙ there) in
      let same : text_eq c.node.name name ≡ true =
      ap (text_eq c.node.name) (n.4 ∙ ap (λ (d : Component). d.node.name) its) ∙ text_self c.node.name in
      absurd (not_both (text_eq c.node.name name) same other)
  | inr t ↦ t.0
]

named_number : (s : Scenario) → NamesDiffer s → (x : ℕ) (c : Component) (name : List ℕ) → slice_get (components s) x ≡ Some c → (b : Bool)
    → text_eq c.node.name name ≡ b → is_number x (numbered 0 name (components s)) ≡ b
named_number s differ x c name there true e =
    ap (λ n. is_number x (numbered 0 n (components s))) (sym (text_is c.node.name name e)) ∙ ap (is_number x) (own_number s differ x c there) ∙ equal_self x
named_number s differ x c name there false e = numbered_else s differ x c name there e (numbered 0 name (components s)) refl

after_named : (s : Scenario) → NamesDiffer s → (x : ℕ) (c : Component) → slice_get (components s) x ≡ Some c → (after : Option (List ℕ))
    → is_number x (number_named after (λ name. numbered 0 name (components s))) ≡ is_named c.node.name after
after_named s differ x c there None = refl
after_named s differ x c there (Some name) = named_number s differ x c name there (text_eq c.node.name name) refl

-- a leaf starts after the leaf x where it says so by name
pub follows_named : (s : Scenario) → NamesDiffer s → (x : ℕ) (c d : Component) → slice_get (components s) x ≡ Some c
    → follows s x (Some d) ≡ is_named c.node.name d.node.after
follows_named s differ x c d there = after_named s differ x c there d.node.after

-- HOW IT STANDS THEN

same_in : (b : Bool) (p : Phase) → p ≡ cond b p p
same_in true p = refl
same_in false p = refl

released_phase : (b : Bool) (name : List ℕ) (after : Option (List ℕ)) (p : Phase) → is_named name after ≡ b → released name after p ≡ cond b (started p) p
released_phase b name after phase.Pending e = ap (λ a. cond a phase.Running phase.Pending) e
released_phase b name after phase.Running e = same_in b phase.Running
released_phase b name after phase.Blocked e = same_in b phase.Blocked
released_phase b name after phase.Serving e = same_in b phase.Serving
released_phase b name after phase.Handling e = same_in b phase.Handling
released_phase b name after phase.Exited e = same_in b phase.Exited

released_state : (b : Bool) (name : List ℕ) (after : Option (List ℕ)) (l : Coded) → is_named name after ≡ b
    → (released_if b l).state ≡ released_by name after l.state
released_state true name after l e = sym (ap (λ p. record l.state { phase = p }) (released_phase true name after l.state.phase e))
released_state false name after l e = sym (ap (λ p. record l.state { phase = p }) (released_phase false name after l.state.phase e))

started_body : (b : Bool) (body : Statements) → body_in (cond b phase.Running phase.Pending) body ≡ body
started_body true body = refl
started_body false body = refl

released_body : (name : List ℕ) (after : Option (List ℕ)) (p : Phase) (body : Statements) → body_in (released name after p) body ≡ body_in p body
released_body name after phase.Pending body = started_body (is_named name after) body
released_body name after phase.Running body = refl
released_body name after phase.Blocked body = refl
released_body name after phase.Serving body = refl
released_body name after phase.Handling body = refl
released_body name after phase.Exited body = refl

abbrev with_body : LeafState → Phase → Statements → world.Leaf
with_body l p body =
    let state = state_of body l.registers l.steps in
    record {
      phase = p;
      current = current_seen l.current;
      reacting = l.reacting;
      todo = state.todo;
      loops = state.loops;
      operands = state.operands;
      locals = state.locals;
      slots = [];
      peaks = [];
      steps = state.steps;
      inputs = state.inputs;
      signals = l.signals;
    }

released_leaf : (program : Program) (l : LeafState) (name : List ℕ) (after : Option (List ℕ))
    → leaf_of program (released_by name after l) ≡ record (leaf_of program l) { phase = released name after l.phase }
released_leaf program l name after =
    ap (with_body l (released name after l.phase)) (released_body name after l.phase
    (body_of (section_in (section_at l.current l.reacting) program.sections)))

-- THE LEAVES

released_code : (b : Bool) (l : Coded) → (released_if b l).code ≡ l.code
released_code true l = refl
released_code false l = refl

module _ (s : Scenario) (x : ℕ) (ls ms : List Coded) (count : length ls ≡ length (components s)) (gone : AreGone s x ls ms) where
  found : (y : ℕ) (d : Component) → slice_get (components s) y ≡ Some d → (l : Coded) × (slice_get ls y ≡ Some l)
  found y d e = let less = slice_get_within (components s) y d e in get_within ls y (omega (arith, less, count))

  -- another leaf of a component
  released_at : (y : ℕ) (d : Component) (l : Coded) → (y ≡ x → ⊥) → slice_get (components s) y ≡ Some d → slice_get ls y ≡ Some l
      → slice_get ms y ≡ Some (released_if (follows s x (Some d)) l)
  released_at y d l n ed el =
      gone.others y n ∙ ap (option_map (released_if (follows s x (slice_get (components s) y)))) el ∙ ap (λ o. Some (released_if (follows s x o) l)) ed

  pub is_gone : NamesDiffer s → (c : Component) (l : Coded) → slice_get (components s) x ≡ Some c → slice_get ls x ≡ Some l
      → IsGone (system s) (frame_of s ls) (frame_of s ms) x c l.state
  is_gone differ c l ec el =
      record {
        names = refl;
        exits = leaf_at s ms x c (record l { state = exited l.state }) ec (gone.own l el);
        others = λ y d n ed.
            let m = found y d ed in
            let now = leaf_at s ms y d (released_if (follows s x (Some d)) m.0) ed (released_at y d m.0 n ed m.1) in
            let state = released_state (follows s x (Some d)) c.node.name d.node.after m.0 (sym (follows_named s differ x c d ec)) in
            now ∙ ap (leaf_of d.node.program) state ∙ released_leaf d.node.program m.0.state c.node.name d.node.after
            ∙ sym (ap (λ (z : world.Leaf). record z { phase = released c.node.name d.node.after z.phase }) (leaf_at s ls y d m.0 ed m.1));
      }

  pub codes_gone : SameCodes ls ms
  codes_gone =
      record {
        count = gone.count;
        code = λ y m e.
            let there = slice_get_within ms y m e in
            let l = get_within ls y (let same = gone.count in omega (arith, there, same)) in (
              l.0,
              l.1,
              elim (eqb_tells y x) [
                | inl t ↦
                    let now = gone.own l.0 (sym (ap (slice_get ls) t.1) ∙ l.1) in
                    ap (λ (c : Coded). c.code) (some_same (sym e ∙ ap (slice_get ms) t.1 ∙ now))
                | inr t ↦
                    let b = follows s x (slice_get (components s) y) in
                    let now = gone.others y t.1 ∙ ap (option_map (released_if b)) l.1 in
                    ap (λ (c : Coded). c.code) (some_same (sym e ∙ now)) ∙ released_code b l.0
              ],
            );
      }

-- A FRAME IN WHICH IT HAS EXITED

abbrev pub released_in : List ℕ → Option Component → world.Leaf → world.Leaf
released_in name None leaf = leaf
released_in name (Some d) leaf = record leaf { phase = released name d.node.after leaf.phase }

abbrev pub gone_frame : System → Frame → ℕ → Component → LeafState → Frame
gone_frame system f x c l =
    setting (record f { leaf = λ y. released_in c.node.name (slice_get system.components y) (f.leaf y) }) x (leaf_of c.node.program (exited l))

pub frame_gone : (system : System) (f : Frame) (x : ℕ) (c : Component) (l : LeafState) → IsGone system f (gone_frame system f x c l) x c l
frame_gone system f x c l =
    let between : Frame = record f { leaf = λ y. released_in c.node.name (slice_get system.components y) (f.leaf y) } in
    let gone = leaf_of c.node.program (exited l) in
    record {
      names = refl;
      exits = set_here between x gone;
      others = λ y d n e. set_else between x gone y n ∙ ap (λ o. released_in c.node.name o (f.leaf y)) e;
    }

-- WHAT IS KNOWN OF A LEAF THAT EXITS

pub provides_nothing : (s : Scenario) → IsReady s → (x : ℕ) (c : Component) → slice_get (components s) x ≡ Some c → c.node.provides ≡ None
    → ProvidesNothing (system s) x
provides_nothing s ready x c there none y d service at routed = none_some (sym none ∙ provided s y x d c service ready at routed there)

-- WHAT STAYS OF THE SLOTS

room_started : (w : Trades) (o : Option ℕ) → (trade.started w o).trading.room ≡ w.trading.room
room_started w None = refl
room_started w (Some i) = refl

pub room_then : (t u : Slots) (x : ℕ) → EndsLeaf t u x → u.trades.trading.room ≡ t.trades.trading.room
room_then t u x ends =
    let e = ends.ends in
    let n = node_of t.trades.trading x in
    let ns = staged t.trades.nodes n Ended in
    ap (λ (w : Trades). w.trading.room) e.is ∙ room_started (record { trading = e.between; nodes = ns }) (follower n ns)
    ∙ ap (λ (w : Trading). w.room) e.leaves.is
