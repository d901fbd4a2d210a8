-- Each world that an accepted scenario comes to is typed, and no step in it is wrong but for want of quota.
use Rattle.std.proofs.Common.{◌≡◌, ℕ, suc, Option, Some, None, Ok, refl}
use Rattle.std.specs.Prelude.{slice_get}
use Rattle.gq_model.specs.declared.phase.Phase.{Phase}
use Rattle.gq_model.specs.declared.phase.Phase.TheVariants.{Pending, Running, Blocked, Serving, Handling, Exited}
use Rattle.gq_model.specs.declared.section.Section.TheVariants.{Main}
use Rattle.gq_model.specs.machine.Program.{Statements, section_in}
use Rattle.gq_model.specs.machine.Scenario.{Scenario, System, Component, components, system}
use Rattle.gq_model.specs.machine.World.{Leaf, World, start, section_of}
use Rattle.gq_model.specs.machine.Doing.{Doing, Event, Idle}
use Rattle.gq_model.specs.machine.Step.{step_of, next}
use Rattle.gq_model.specs.rules.Kinds.{Kind, AbstractState}
use Rattle.gq_model.specs.rules.Flow.{flow, context, body, start_of}
use Rattle.gq_model.specs.rules.Use.{subject}
use Rattle.gq_laws.specs.Reached_worlds.{IsReached}
use Rattle.gq_laws.specs.Session_links.{IsLinkedWorld}
use Rattle.gq_laws.specs.Shapes.{IsWholeWorld}
use Rattle.gq_laws.specs.Sound_scenarios.{IsSound}
use Rattle.gq_laws.specs.internal.Remaining_instructions.{AreLeft, IsGood}
use Rattle.gq_laws.specs.Inside_steps.{IsSafe, TakesLeaf}
use Rattle.gq_laws.specs.Typing.{Extra, no_extra, IsInSection, StandsBy, IsTyped}
use Rattle.gq_laws.proofs.upheld_worlds.Reached_world_induction.{in_reached}
use Rattle.gq_laws.proofs.session_links.Linked_worlds.{kept_linked, start_linked}
use Rattle.gq_laws.proofs.remaining_work.Remaining_program_statements.{start_left, kept_left}
use Rattle.gq_laws.proofs.step_shapes.Whole_worlds.{start_whole, kept_whole}
use Rattle.gq_laws.proofs.verified_programs.Accepted_program_facts.{main_there}
use Rattle.gq_laws.proofs.statement_rules.Ruled_step_shapes.{safe_gives}
use Rattle.gq_laws.proofs.verified_programs.Sure_system_facts.{IsSure}
use Rattle.gq_laws.proofs.verified_programs.Sound_systems.{sure_of, good_of}
use Rattle.gq_laws.proofs.typed_worlds.Start_typed.{nothing, start_typed}
use Rattle.gq_laws.proofs.input_settings.Setting_keeps_invariants.{set_whole, set_linked, set_left, set_typed}
use Rattle.gq_laws.proofs.input_settings.Setting_keeps_invariants.{submit_whole, submit_linked, submit_left, submit_typed}
use Rattle.gq_laws.proofs.typed_worlds.Typed_world_step.{outcome, outcome_typed}
use Rattle.gq_model.proofs.Rules_laws.{section_flows}
use Rattle.gq_model.specs.machine.Run.{set_input, submit}

-- a leaf whose step is counted stands where it stood
in_section_counted : (promised : ℕ → Option Kind) (extra : Extra) (system : System) (w : World) (x : ℕ) (c : Component) (leaf : Leaf) (n : ℕ) (phase : Phase)
    → IsInSection promised extra system w x c leaf phase (section_of leaf.current leaf.reacting)
    → IsInSection promised extra system w x c (record leaf { steps = n }) phase (section_of leaf.current leaf.reacting)
in_section_counted promised extra system w x c leaf n phase s =
    record {
      state = s.state;
      next = s.next;
      end = s.end;
      meets = record {
        own = s.meets.own;
        current = s.meets.current;
        bank = s.meets.bank;
        operands = s.meets.operands;
        locals = s.meets.locals;
        loops = s.meets.loops;
      };
      from = s.from;
      goes_on = s.goes_on;
      whole = s.whole;
      listed = s.listed;
      also = s.also;
    }

pub counted : (promised : ℕ → Option Kind) (extra : Extra) (system : System) (w : World) (x : ℕ) (c : Component) (leaf : Leaf) (n : ℕ) (phase : Phase)
    → StandsBy promised extra system w x c leaf phase → StandsBy promised extra system w x c (record leaf { steps = n }) phase
counted promised extra system w x c leaf n Pending s = in_section_counted promised extra system w x c leaf n Pending s
counted promised extra system w x c leaf n Running s = in_section_counted promised extra system w x c leaf n Running s
counted promised extra system w x c leaf n Blocked s = in_section_counted promised extra system w x c leaf n Blocked s
counted promised extra system w x c leaf n Serving s = s
counted promised extra system w x c leaf n Handling s = in_section_counted promised extra system w x c leaf n Handling s
counted promised extra system w x c leaf n Exited s = s

-- one turn
pub next_typed : (system : System) → IsSure system → (w : World) → IsWholeWorld system w → IsLinkedWorld system w → AreLeft (IsGood system) system w
    → IsTyped system w → (x : ℕ) → IsSafe (IsTyped system) (next system w x)
next_typed system sure w whole h left t x = by (slice_get system.components x) refl (slice_get w.leaves x) refl
  where
    by : (o : Option Component) → slice_get system.components x ≡ o → (p : Option Leaf) → slice_get w.leaves x ≡ p
        → IsSafe (IsTyped system) (step_of system w x o p)
    by None e p f = safe_gives w Idle t
    by (Some c) e None f = safe_gives w Idle t
    by (Some c) e (Some leaf) f =
        let d : Doing = record { system = system; world = w; x = x; component = c; leaf = record leaf { steps = suc leaf.steps } } in
        let taken : TakesLeaf d = record { old = leaf; there = f; slots = refl; phase = refl; current = refl; reacting = refl } in
        let o = outcome t.0 no_extra d sure taken h t.1 e (left x c leaf e f).todo (whole.inputs x c leaf e f) (whole.signals x c leaf e f)
        (counted t.0 no_extra system w x c leaf (suc leaf.steps) leaf.phase (t.1.leaves x c leaf e f)) in
        record { ends = λ new event g. outcome_typed t.0 no_extra d sure taken h t.1 e new (o.ends new event g); short = o.short }

-- THE WORLDS OF A SCENARIO

module _ (s : Scenario) (sound : IsSound s) where
  sure : IsSure (system s)
  sure = sure_of s sound

  main_listed : (x : ℕ) (c : Component) → slice_get (components s) x ≡ Some c → (list : Statements) × (section_in Main c.node.program.sections ≡ Some list)
  main_listed x c there = main_there (subject (system s) c) (sure.faultless x c there)

  main_flows : (x : ℕ) (c : Component) → slice_get (components s) x ≡ Some c
      → (end : AbstractState) × (flow (context (subject (system s) c) Main) (start_of (subject (system s) c) Main) (body (subject (system s) c) Main) ≡ Ok end)
  main_flows x c there =
      let l = main_listed x c there in
      let f = section_flows (subject (system s) c) Main l.0 (sure.faultless x c there) l.1 in
      (f.0, f.2)

  -- a world that is typed, with all that its steps take for granted
  record Stands (w : World) : Type 0 where
    whole : IsWholeWorld (system s) w
    linked : IsLinkedWorld (system s) w
    left : AreLeft (IsGood (system s)) (system s) w
    typed : IsTyped (system s) w

  stands_on : (w : World) (x : ℕ) (new : World) (event : Event) → Stands w → next (system s) w x ≡ Ok (new, event) → Stands new
  stands_on w x new event h e =
      record {
        whole = kept_whole (system s) w x new event h.whole e;
        linked = kept_linked (system s) w x new event h.linked e;
        left = kept_left (IsGood (system s)) (system s) (good_of s sound) w x new event h.left e;
        typed = (next_typed (system s) sure w h.whole h.linked h.left h.typed x).ends new event e;
      }

  stands_set : (w : World) (x i n : ℕ) → Stands w → Stands (set_input (system s) w x i n)
  stands_set w x i n h =
      record {
        whole = set_whole (system s) w x i n h.whole;
        linked = set_linked (system s) w x i n h.linked;
        left = set_left (IsGood (system s)) (system s) w x i n h.left;
        typed = (h.typed.0, set_typed h.typed.0 no_extra (system s) (system s) w x i n h.typed.1);
      }

  stands_submit : (w : World) (x i : ℕ) → Stands w → Stands (submit w x i)
  stands_submit w x i h =
      record {
        whole = submit_whole (system s) w x i h.whole;
        linked = submit_linked (system s) w x i h.linked;
        left = submit_left (IsGood (system s)) (system s) w x i h.left;
        typed = (h.typed.0, submit_typed h.typed.0 no_extra (system s) w x i h.typed.1);
      }

  stands_first : Stands (start (system s))
  stands_first =
      record {
        whole = start_whole (system s);
        linked = start_linked (system s);
        left = start_left (IsGood (system s)) (system s) (good_of s sound);
        typed = (nothing, start_typed no_extra (system s) sure main_flows main_listed (λ x c there. tt));
      }

  reached_stands : (w : World) → IsReached s w → Stands w
  reached_stands = in_reached s Stands stands_on stands_set stands_submit stands_first

  -- each world is typed
  pub reached_typed : (w : World) → IsReached s w → IsTyped (system s) w
  reached_typed w r = (reached_stands w r).typed
