-- A leaf that has exited has inputs that are 0, in each world that a scenario comes to.
use Rattle.std.proofs.Common.{◌≡◌, ℕ, zero, suc, inl, inr, Bool, true, false, cond, nat_lt, List, [], ◌∷◌, Option, Some, None, Ok, refl, ap, sym, ◌∙◌, subst}
use Rattle.std.specs.Prelude.{replicate, slice_get}
use Rattle.gq_model.specs.declared.fault.Wrong.TheVariants.{MissingSection, WrongKind}
use Rattle.gq_model.specs.declared.phase.Phase.{Phase}
use Rattle.gq_model.specs.declared.phase.Phase.TheVariants.{Pending, Running, Blocked, Serving, Handling, Exited}
use Rattle.gq_model.specs.declared.section.Section.TheVariants.{Reacting}
use Rattle.gq_model.specs.machine.Doing.{Doing, Event, Idle, Quiet, Finished, settled, standing}
use Rattle.gq_model.specs.machine.Program.{Statements, Done, Do, If, Loop, section_in}
use Rattle.gq_model.specs.machine.Run.{inputs_with, is_within, set_in, set_input, submit}
use Rattle.gq_model.specs.machine.Scenario.{Component, Scenario, System, system}
use Rattle.gq_model.specs.machine.Step.{accept_oldest, active_again, all_released, body_ended, exited, first_signal, is_named, main_ended, next, no_link}
use Rattle.gq_model.specs.machine.Step.{oldest, perform, reacting_to, released, resumed, section_ended, serve, serving, step_in, step_of, unblocked}
use Rattle.gq_model.specs.machine.Sums.{with_peaks}
use Rattle.gq_model.specs.machine.World.{Current, Leaf, Request, Round, Signal, Slot, SlotId, World, first_phase, start_leaves, with_leaf, with_slot}
use Rattle.gq_model.proofs.Small_facts.{none_some, some_same}
use Rattle.gq_laws.specs.Reached_worlds.{IsReached}
use Rattle.gq_laws.proofs.input_settings.Setting_keeps_invariants.{of_submit}
use Rattle.gq_laws.proofs.step_shapes.Step_change_shapes.{accept_by, plain_instruct_by, section_by, slot_by}
use Rattle.gq_laws.proofs.step_shapes.Step_end_shapes.{Ends, gives, need_ends, need_found, pop_ends, when_ends}
use Rattle.gq_laws.proofs.step_shapes.Step_end_worlds.{begun}
use Rattle.gq_laws.proofs.upheld_worlds.Reached_world_induction.{in_reached}
use Rattle.gq_determined.proofs.thread_runs.Remaining_section_statements.{set_get}

abbrev zeros : List ℕ
zeros = replicate 8 0

abbrev IsCleared : Leaf → Type 0
IsCleared leaf = leaf.phase ≡ Exited → leaf.inputs ≡ zeros

pub record AreCleared (w : World) : Type 0 where
  pub each : (y : ℕ) (leaf : Leaf) → slice_get w.leaves y ≡ Some leaf → leaf.phase ≡ Exited → leaf.inputs ≡ zeros

serving_exited : Serving ≡ Exited → ⊥
serving_exited e = cc

blocked_exited : Blocked ≡ Exited → ⊥
blocked_exited e = cc

handling_exited : Handling ≡ Exited → ⊥
handling_exited e = cc

starts_exited : (after : Option (List ℕ)) → first_phase after ≡ Exited → ⊥
starts_exited None e = cc
starts_exited (Some name) e = cc

resumes_exited : (current : Option Current) (reacting : Option ℕ) → resumed current reacting ≡ Exited → ⊥
resumes_exited None None e = cc
resumes_exited None (Some i) e = cc
resumes_exited (Some q) reacting e = cc

leaf_cleared : (w : World) (x : ℕ) (leaf : Leaf) → IsCleared leaf → AreCleared w → AreCleared (with_leaf w x leaf)
leaf_cleared w x leaf own h = record {
  each = λ y new e. elim (set_get w.leaves x y leaf new e) [ inl q ↦ subst IsCleared q.1 own | inr q ↦ h.each y new q ];
}

slot_cleared : (w : World) (q : SlotId) (slot : Slot) → AreCleared w → AreCleared (with_slot w q slot)
slot_cleared =
    slot_by AreCleared (λ w x leaf slots e h. leaf_cleared w x (record leaf { slots = slots }) (h.each x leaf e) h) (λ w sessions h. record { each = h.each })

unblocked_cleared : (w : World) (x : ℕ) (f : List ℕ → List ℕ) → AreCleared w → AreCleared (unblocked w x f)
unblocked_cleared w x f h = by (slice_get w.leaves x) refl
  where
    by : (o : Option Leaf) → slice_get w.leaves x ≡ o → AreCleared (active_again w x f o)
    by None e = h
    by (Some leaf) e =
        leaf_cleared w x (record leaf { phase = resumed leaf.current leaf.reacting; operands = f leaf.operands })
        (λ e. absurd (resumes_exited leaf.current leaf.reacting e)) h

settled_cleared : (u : System) (x : ℕ) (w : World) → AreCleared w → Ends AreCleared (settled u x w)
settled_cleared u x w h =
    need_found AreCleared _ _ _ (λ leaf there. when_ends AreCleared _ _ _ (gives _ _ (leaf_cleared w x (with_peaks w x leaf) (h.each x leaf there) h)))

-- none exits when others are released
released_was : (name : List ℕ) (after : Option (List ℕ)) (p : Phase) → released name after p ≡ Exited → p ≡ Exited
released_was name after Pending e = absurd (by (is_named name after) e)
  where
    running : Running ≡ Exited → ⊥
    running e = cc

    pending : Pending ≡ Exited → ⊥
    pending e = cc

    by : (b : Bool) → cond b Running Pending ≡ Exited → ⊥
    by true e = running e
    by false e = pending e
released_was name after Running e = e
released_was name after Blocked e = e
released_was name after Serving e = e
released_was name after Handling e = e
released_was name after Exited e = e

released_leaf : (name : List ℕ) (cs : List Component) (leaves : List Leaf) (y : ℕ) (leaf : Leaf) → slice_get (all_released name cs leaves) y ≡ Some leaf
    → leaf.phase ≡ Exited → (old : Leaf) × (slice_get leaves y ≡ Some old) × (leaf.inputs ≡ old.inputs) × (old.phase ≡ Exited)
released_leaf name [] leaves y leaf e gone = (leaf, e, refl, gone)
released_leaf name (c ∷ cs) [] y leaf e gone = absurd (none_some e)
released_leaf name (c ∷ cs) (l ∷ leaves) zero leaf e gone =
    let same = some_same e in
    (l, refl, ap (λ (k : Leaf). k.inputs) (sym same), released_was name c.node.after l.phase (ap (λ (k : Leaf). k.phase) same ∙ gone))
released_leaf name (c ∷ cs) (l ∷ leaves) (suc y) leaf e gone = released_leaf name cs leaves y leaf e gone

module _ (d : Doing) (h : AreCleared d.world) (own : IsCleared d.leaf) where
  main_cleared : (o : Option (List ℕ)) (n : ℕ) → Ends AreCleared (main_ended d o n)
  main_cleared (Some service) n = gives _ Quiet (leaf_cleared d.world d.x (serving d.leaf) (λ e. absurd (serving_exited e)) h)
  main_cleared None (suc n) = gives _ Quiet (leaf_cleared d.world d.x (serving d.leaf) (λ e. absurd (serving_exited e)) h)
  main_cleared None zero = when_ends AreCleared (no_link d.leaf.slots) WrongKind _ (gives _ Finished (record {
    each = λ y leaf e gone.
        (let old = released_leaf d.component.node.name d.system.components (standing d (exited d.leaf)).leaves y leaf e gone in
        let w = leaf_cleared d.world d.x (exited d.leaf) (λ e. refl) h in old.2 ∙ w.each y old.0 old.1 old.3);
  }))

  section_cleared : (current : Option Current) (reacting : Option ℕ) → Ends AreCleared (section_ended d current reacting)
  section_cleared =
      section_by d AreCleared slot_cleared (leaf_cleared d.world d.x (serving d.leaf) (λ e. absurd (serving_exited e)) h) unblocked_cleared
      (λ w k hw. record { each = hw.each }) (main_cleared d.component.node.provides d.component.node.signals)

  body_cleared : (loops : List Round) → Ends AreCleared (body_ended d loops)
  body_cleared [] = section_cleared d.leaf.current d.leaf.reacting
  body_cleared (r ∷ loops) = gives _ Quiet (by (nat_lt (suc r.round) r.count))
    where
      by : (b : Bool) → AreCleared (standing d (cond b (record d.leaf { todo = r.body; loops = record r { round = suc r.round } ∷ loops })
          (record d.leaf { todo = r.rest; loops = loops })))
      by true = leaf_cleared d.world d.x _ own h
      by false = leaf_cleared d.world d.x _ own h

  accepted_cleared : (o : Option (Request × List Request)) → Ends AreCleared (accept_oldest d o)
  accepted_cleared None = gives d.world Idle h
  accepted_cleared (Some q) =
      accept_by AreCleared d q.0 q.1
      (λ old there. (let w = leaf_cleared d.world d.x (begun d q.0 old) (λ e. absurd (handling_exited e)) h in record { each = w.each }))

  served_cleared : (o : Option (ℕ × List Signal)) → Ends AreCleared (serve d o)
  served_cleared None = accepted_cleared (oldest d.world d.x d.world.requests)
  served_cleared (Some p) = need_ends AreCleared (section_in (Reacting p.0) d.component.node.program.sections) MissingSection _
      (λ body. gives _ Quiet (leaf_cleared d.world d.x (reacting_to d.leaf p.0 p.1 body) (λ e. absurd (handling_exited e)) h))

performed_cleared : (d : Doing) → AreCleared d.world → IsCleared d.leaf → (todo : Statements) → Ends AreCleared (perform d todo)
performed_cleared d h own Done = body_cleared d h own d.leaf.loops
performed_cleared d h own (Do i rest) =
    let e : Doing = record d { leaf = record d.leaf { todo = rest } } in
    plain_instruct_by e AreCleared AreCleared h slot_cleared slot_cleared (λ w operands locals q hw. leaf_cleared w d.x _ own hw)
    (λ w operands hw. leaf_cleared w d.x _ (λ e. absurd (blocked_exited e)) hw) (λ w requests hw. record { each = hw.each }) (settled_cleared d.system d.x)
    (λ w sessions hw. record { each = hw.each }) i
performed_cleared d h own (If arm other rest) = pop_ends AreCleared d.leaf.operands _ (λ a below. gives _ Quiet (leaf_cleared d.world d.x _ own h))
performed_cleared d h own (Loop count body rest) = gives _ Quiet (leaf_cleared d.world d.x _ own h)

step_cleared : (d : Doing) → AreCleared d.world → IsCleared d.leaf → (phase : Phase) → Ends AreCleared (step_in d phase)
step_cleared d h own Running = performed_cleared d h own d.leaf.todo
step_cleared d h own Handling = performed_cleared d h own d.leaf.todo
step_cleared d h own Serving = served_cleared d h own (first_signal d.leaf.signals)
step_cleared d h own Pending = gives d.world Idle h
step_cleared d h own Blocked = gives d.world Idle h
step_cleared d h own Exited = gives d.world Idle h

cleared_next : (u : System) (w : World) (x : ℕ) (new : World) (event : Event) → AreCleared w → next u w x ≡ Ok (new, event) → AreCleared new
cleared_next u w x new event h stepped = (by (slice_get u.components x) (slice_get w.leaves x) refl).holds new event stepped
  where
    by : (c : Option Component) (o : Option Leaf) → slice_get w.leaves x ≡ o → Ends AreCleared (step_of u w x c o)
    by (Some c) (Some leaf) there =
        step_cleared (record { system = u; world = w; x = x; component = c; leaf = record leaf { steps = suc leaf.steps } }) h (h.each x leaf there) leaf.phase
    by (Some c) None there = gives w Idle h
    by None o there = gives w Idle h

-- SETTINGS AND SIGNALS

inputs_cleared : (leaf : Leaf) (i n : ℕ) → IsCleared leaf → IsCleared (record leaf { inputs = inputs_with leaf.phase leaf.inputs i n })
inputs_cleared leaf i n own gone = ap (λ p. inputs_with p leaf.inputs i n) gone ∙ own gone

cleared_set : (u : System) (w : World) (x i n : ℕ) → AreCleared w → AreCleared (set_input u w x i n)
cleared_set u w x i n h = by (slice_get u.components x) (slice_get w.leaves x) refl
  where
    by : (c : Option Component) (o : Option Leaf) → slice_get w.leaves x ≡ o → AreCleared (set_in w x i n c o)
    by (Some c) (Some leaf) e = fits (is_within (slice_get c.node.inputs i) n)
      where
        fits : (b : Bool) → AreCleared (cond b (with_leaf w x (record leaf { inputs = inputs_with leaf.phase leaf.inputs i n })) w)
        fits true = leaf_cleared w x _ (inputs_cleared leaf i n (h.each x leaf e)) h
        fits false = h
    by (Some c) None e = h
    by None o e = h

cleared_submit : (w : World) (x i : ℕ) → AreCleared w → AreCleared (submit w x i)
cleared_submit w x i h = of_submit AreCleared w x i (λ leaf there. leaf_cleared w x _ (h.each x leaf there) h) h

started : (cs : List Component) (y : ℕ) (leaf : Leaf) → slice_get (start_leaves cs) y ≡ Some leaf → leaf.phase ≡ Exited → leaf.inputs ≡ zeros
started [] y leaf e gone = absurd (none_some e)
started (c ∷ cs) zero leaf e gone = ap (λ (l : Leaf). l.inputs) (sym (some_same e))
started (c ∷ cs) (suc y) leaf e gone = started cs y leaf e gone

pub reached_cleared : (s : Scenario) (w : World) → IsReached s w → AreCleared w
reached_cleared s =
    in_reached s AreCleared (cleared_next (system s)) (cleared_set (system s)) cleared_submit (record { each = started (system s).components })
