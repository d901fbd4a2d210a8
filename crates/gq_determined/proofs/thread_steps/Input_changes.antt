-- A step sets no input; where a leaf exits, its inputs become 0.
use Rattle.std.proofs.Common.{◌≡◌, ◌⊎◌, inl, inr, ℕ, zero, suc, Bool, true, false, cond, nat_lt, List, [], ◌∷◌, Option, Some, None, Ok, refl, ap, sym, ◌∙◌}
use Rattle.std.specs.Prelude.{replicate, slice_get}
use Rattle.std.proofs.lemmas.Bool.{true≢false}
use Rattle.gq_model.specs.declared.fault.Wrong.TheVariants.{MissingSection, WrongKind}
use Rattle.gq_model.specs.declared.program.Instruction.{Instruction}
use Rattle.gq_model.specs.declared.phase.Phase.{Phase}
use Rattle.gq_model.specs.declared.phase.Phase.TheVariants.{Pending, Running, Blocked, Serving, Handling, Exited}
use Rattle.gq_model.specs.declared.section.Section.TheVariants.{Reacting}
use Rattle.gq_model.specs.machine.Program.{Statements, Done, Do, If, Loop, section_in}
use Rattle.gq_model.specs.machine.Scenario.{System, Component}
use Rattle.gq_model.specs.machine.World.{Slot, SlotId, Request, Current, Signal, Round, Leaf, World, with_leaf, with_slot}
use Rattle.gq_model.specs.machine.Doing.{Doing, Event, Idle, Quiet, Finished, settled, standing}
use Rattle.gq_model.specs.machine.Step.{all_released, oldest, serving, resumed, active_again, unblocked, exited, no_link, instruct, main_ended, section_ended}
use Rattle.gq_model.specs.machine.Step.{body_ended, perform, accept_oldest, first_signal, reacting_to, serve, step_in, step_of, next}
use Rattle.gq_model.specs.machine.Sums.{with_peaks}
use Rattle.gq_model.proofs.Small_facts.{none_some, some_same}
use Rattle.gq_laws.specs.Leaf_phases.{serves}
use Rattle.gq_laws.proofs.step_shapes.Step_end_shapes.{Ends, gives, need_ends, need_found, when_ends, pop_ends}
use Rattle.gq_laws.proofs.step_shapes.Step_change_shapes.{slot_by, plain_instruct_by, section_by, accept_by}
use Rattle.gq_laws.proofs.step_shapes.Step_end_worlds.{begun}
use Rattle.gq_determined.proofs.thread_runs.Remaining_section_statements.{set_get}

released_inputs : (name : List ℕ) (cs : List Component) (leaves : List Leaf) (y : ℕ) (leaf : Leaf) → slice_get (all_released name cs leaves) y ≡ Some leaf
    → (old : Leaf) × (slice_get leaves y ≡ Some old) × (leaf.inputs ≡ old.inputs)
released_inputs name [] leaves y leaf e = (leaf, e, refl)
released_inputs name (c ∷ cs) [] y leaf e = absurd (none_some e)
released_inputs name (c ∷ cs) (l ∷ leaves) zero leaf e = (l, refl, ap (λ (k : Leaf). k.inputs) (sym (some_same e)))
released_inputs name (c ∷ cs) (l ∷ leaves) (suc y) leaf e = released_inputs name cs leaves y leaf e

-- the inputs of a leaf
module _ (y : ℕ) (p : List ℕ) where
  pub record HasInputs (w : World) : Type 0 where
    pub keeps : (leaf : Leaf) → slice_get w.leaves y ≡ Some leaf → leaf.inputs ≡ p

  abbrev Has : World → Type 0
  Has = HasInputs

  leaf_has : (w : World) (x : ℕ) (leaf : Leaf) → (y ≡ x → leaf.inputs ≡ p) → Has w → Has (with_leaf w x leaf)
  leaf_has w x leaf own h = record {
    keeps = λ new e. elim (set_get w.leaves x y leaf new e) [
      | inl q ↦ ap (λ (l : Leaf). l.inputs) (sym q.1) ∙ own q.0
      | inr q ↦ h.keeps new q
    ];
  }

  slot_has : (w : World) (q : SlotId) (slot : Slot) → Has w → Has (with_slot w q slot)
  slot_has =
      slot_by Has (λ w x leaf slots e h. leaf_has w x (record leaf { slots = slots }) (λ same. h.keeps leaf (ap (slice_get w.leaves) same ∙ e)) h)
      (λ w sessions h. record { keeps = h.keeps })

  unblocked_has : (w : World) (x : ℕ) (f : List ℕ → List ℕ) → Has w → Has (unblocked w x f)
  unblocked_has w x f h = by (slice_get w.leaves x) refl
    where
      by : (o : Option Leaf) → slice_get w.leaves x ≡ o → Has (active_again w x f o)
      by None e = h
      by (Some leaf) e = leaf_has w x (record leaf { phase = resumed leaf.current leaf.reacting; operands = f leaf.operands })
          (λ same. h.keeps leaf (ap (slice_get w.leaves) same ∙ e)) h

  settled_has : (system : System) (x : ℕ) (w : World) → Has w → Ends Has (settled system x w)
  settled_has system x w h = need_found Has (slice_get w.leaves x) _ _ (λ leaf there. when_ends Has _ _ _ (gives _ _
      (leaf_has w x (with_peaks w x leaf) (λ same. h.keeps leaf (ap (slice_get w.leaves) same ∙ there)) h)))

  -- a step; the leaf does not exit, or its inputs are 0
  module _ (d : Doing) (h : Has d.world) (own : y ≡ d.x → d.leaf.inputs ≡ p)
      (lasts : y ≡ d.x → (serves d.component.node.provides d.component.node.signals ≡ true) ⊎ (p ≡ replicate 8 0)) where
    stands_has : (leaf : Leaf) → leaf.inputs ≡ d.leaf.inputs → Has (standing d leaf)
    stands_has leaf same = leaf_has d.world d.x leaf (λ e. same ∙ own e) h

    instruct_has : (i : Instruction) → Ends Has (instruct d i)
    instruct_has =
        plain_instruct_by d Has Has h slot_has slot_has (λ w operands locals e hw. leaf_has w d.x _ own hw) (λ w operands hw. leaf_has w d.x _ own hw)
        (λ w requests hw. record { keeps = hw.keeps }) (settled_has d.system d.x) (λ w sessions hw. record { keeps = hw.keeps })

    main_has : (o : Option (List ℕ)) (n : ℕ) → (y ≡ d.x → (serves o n ≡ true) ⊎ (p ≡ replicate 8 0)) → Ends Has (main_ended d o n)
    main_has (Some service) n e = gives _ Quiet (stands_has (serving d.leaf) refl)
    main_has None (suc n) e = gives _ Quiet (stands_has (serving d.leaf) refl)
    main_has None zero e = when_ends Has (no_link d.leaf.slots) WrongKind _ (gives _ Finished (record {
      keeps = λ leaf there.
          (let old = released_inputs d.component.node.name d.system.components (standing d (exited d.leaf)).leaves y leaf there in
          let w = leaf_has d.world d.x (exited d.leaf) (λ q. none (e q)) h in
          old.2 ∙ w.keeps old.0 old.1);
    }))
      where
        none : (serves None 0 ≡ true) ⊎ (p ≡ replicate 8 0) → replicate 8 0 ≡ p
        none (inl q) = absurd (true≢false (sym q))
        none (inr q) = sym q

    section_has : (current : Option Current) (reacting : Option ℕ) → Ends Has (section_ended d current reacting)
    section_has =
        section_by d Has slot_has (stands_has (serving d.leaf) refl) unblocked_has (λ w k hw. record { keeps = hw.keeps })
        (main_has d.component.node.provides d.component.node.signals lasts)

    body_has : (loops : List Round) → Ends Has (body_ended d loops)
    body_has [] = section_has d.leaf.current d.leaf.reacting
    body_has (r ∷ loops) = gives _ Quiet (by (nat_lt (suc r.round) r.count))
      where
        by : (b : Bool) → Has (standing d (cond b (record d.leaf { todo = r.body; loops = record r { round = suc r.round } ∷ loops })
            (record d.leaf { todo = r.rest; loops = loops })))
        by true = stands_has _ refl
        by false = stands_has _ refl

    accepted_has : (o : Option (Request × List Request)) → Ends Has (accept_oldest d o)
    accepted_has None = gives d.world Idle h
    accepted_has (Some q) =
        accept_by Has d q.0 q.1 (λ old there. (let w = stands_has (begun d q.0 old) refl in record { keeps = w.keeps }))

    served_has : (signal : Option (ℕ × List Signal)) → Ends Has (serve d signal)
    served_has None = accepted_has (oldest d.world d.x d.world.requests)
    served_has (Some q) = need_ends Has (section_in (Reacting q.0) d.component.node.program.sections) MissingSection _
        (λ body. gives _ Quiet (stands_has (reacting_to d.leaf q.0 q.1 body) refl))

  performed_has : (d : Doing) → Has d.world → (y ≡ d.x → d.leaf.inputs ≡ p)
      → (y ≡ d.x → (serves d.component.node.provides d.component.node.signals ≡ true) ⊎ (p ≡ replicate 8 0)) → (todo : Statements)
      → Ends Has (perform d todo)
  performed_has d h own lasts Done = body_has d h own lasts d.leaf.loops
  performed_has d h own lasts (Do i rest) = instruct_has (record d { leaf = record d.leaf { todo = rest } }) h own lasts i
  performed_has d h own lasts (If arm other rest) = pop_ends Has d.leaf.operands _ (λ a below. gives _ Quiet (stands_has d h own lasts _ refl))
  performed_has d h own lasts (Loop count body rest) = gives _ Quiet (stands_has d h own lasts _ refl)

  step_has : (d : Doing) → Has d.world → (y ≡ d.x → d.leaf.inputs ≡ p)
      → (y ≡ d.x → (serves d.component.node.provides d.component.node.signals ≡ true) ⊎ (p ≡ replicate 8 0)) → (phase : Phase) → Ends Has (step_in d phase)
  step_has d h own lasts Running = performed_has d h own lasts d.leaf.todo
  step_has d h own lasts Handling = performed_has d h own lasts d.leaf.todo
  step_has d h own lasts Serving = served_has d h own lasts (first_signal d.leaf.signals)
  step_has d h own lasts Pending = gives d.world Idle h
  step_has d h own lasts Blocked = gives d.world Idle h
  step_has d h own lasts Exited = gives d.world Idle h

  pub inputs_next : (system : System) (w : World) (x : ℕ) (new : World) (event : Event)
      → ((c : Component) → slice_get system.components y ≡ Some c → (serves c.node.provides c.node.signals ≡ true) ⊎ (p ≡ replicate 8 0)) → HasInputs w
      → next system w x ≡ Ok (new, event) → HasInputs new
  inputs_next system w x new event lasts h stepped = (by (slice_get system.components x) (slice_get w.leaves x) refl refl).holds new event stepped
    where
      by : (c : Option Component) (o : Option Leaf) → slice_get system.components x ≡ c → slice_get w.leaves x ≡ o → Ends Has (step_of system w x c o)
      by (Some c) (Some leaf) at there =
          step_has (record { system = system; world = w; x = x; component = c; leaf = record leaf { steps = suc leaf.steps } }) h
          (λ same. h.keeps leaf (ap (slice_get w.leaves) same ∙ there)) (λ same. lasts c (ap (slice_get system.components) same ∙ at)) leaf.phase
      by (Some c) None at there = gives w Idle h
      by None o at there = gives w Idle h
