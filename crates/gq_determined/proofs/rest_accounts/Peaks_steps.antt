-- A step keeps the peaks of a leaf that provides a service, or raises them to what is in use.
use Rattle.std.proofs.Common.{◌≡◌, ◌≢◌, ◌⊎◌, inl, inr, ℕ, zero, suc, Bool, true, false, cond, nat_lt, List, [], ◌∷◌, Option, Some, None, refl, ap, sym, ◌∙◌}
use Rattle.std.proofs.Common.{subst}
use Rattle.std.specs.Prelude.{slice_get}
use Rattle.std.proofs.lemmas.Bool.{true≢false}
use Rattle.std.proofs.lemmas.Bool.Decides.{eqb_tells}
use Rattle.gq_model.specs.declared.program.Instruction.{Instruction}
use Rattle.gq_model.specs.declared.phase.Phase.{Phase}
use Rattle.gq_model.specs.declared.phase.Phase.TheVariants.{Pending, Running, Blocked, Serving, Handling, Exited}
use Rattle.gq_model.specs.machine.Program.{Statements, Done, Do, If, Loop, section_in}
use Rattle.gq_model.specs.machine.Scenario.{System, Component}
use Rattle.gq_model.specs.machine.World.{Slot, SlotId, Request, Current, Signal, Round, Leaf, World, with_leaf, with_slot}
use Rattle.gq_model.specs.machine.Doing.{Doing, Idle, Quiet, Finished, Stepped, settled, standing}
use Rattle.gq_model.specs.machine.Step.{oldest, serving, resumed, active_again, unblocked, exited, no_link, instruct, main_ended, section_ended, body_ended}
use Rattle.gq_model.specs.machine.Step.{perform, accept_oldest, first_signal, reacting_to, serve, step_in, step_of, next}
use Rattle.gq_model.specs.machine.Sums.{with_peaks}
use Rattle.gq_model.specs.declared.fault.Wrong.TheVariants.{WrongKind, MissingSection}
use Rattle.gq_model.proofs.Small_facts.{some_same}
use Rattle.gq_model.specs.declared.section.Section.TheVariants.{Reacting}
use Rattle.gq_laws.specs.Inside_steps.{TakesLeaf}
use Rattle.gq_laws.specs.Leaf_phases.{serves}
use Rattle.gq_laws.specs.internal.Remaining_instructions.{AllAre, IsGood}
use Rattle.gq_laws.proofs.step_shapes.Step_end_shapes.{Ends, gives, need_ends, when_ends, pop_ends}
use Rattle.gq_laws.proofs.step_shapes.Step_change_shapes.{slot_by, plain_instruct_by, section_by, accept_by}
use Rattle.gq_laws.proofs.step_shapes.Step_end_worlds.{begun}
use Rattle.gq_laws.proofs.typed_worlds.Typed_world_step.{Comes, Inside, At_end, Asks, comes}
use Rattle.gq_laws.proofs.held_resources.Leaf_peaks_step.{HasPeaks, RaisesPeaks, peaks_inside, peaks_asked}
use Rattle.gq_determined.proofs.rest_accounts.Own_peak_bounds.{put_cases}
use Rattle.gq_determined.proofs.rest_accounts.Own_peaks_kept.{released_same}

module _ (y : ℕ) (p : List ℕ) where
  abbrev Has : World → Type 0
  Has = HasPeaks y p

  leaf_has : (w : World) (x : ℕ) (leaf : Leaf) → (y ≡ x → leaf.peaks ≡ p) → Has w → Has (with_leaf w x leaf)
  leaf_has w x leaf own h = record { keeps = λ new e. by new (put_cases w.leaves x y leaf new e) }
    where
      by : (new : Leaf) → ((y ≡ x) × (new ≡ leaf)) ⊎ ((y ≢ x) × (slice_get w.leaves y ≡ Some new)) → new.peaks ≡ p
      by new (inl q) = ap (λ (l : Leaf). l.peaks) q.1 ∙ own q.0
      by new (inr q) = h.keeps new q.1

  slot_has : (w : World) (q : SlotId) (slot : Slot) → Has w → Has (with_slot w q slot)
  slot_has =
      slot_by Has (λ w x leaf slots e h. leaf_has w x (record leaf { slots = slots }) (λ same. h.keeps leaf (ap (slice_get w.leaves) same ∙ e)) h)
      (λ w sessions h. record { keeps = h.keeps })

  unblocked_has : (w : World) (x : ℕ) (f : List ℕ → List ℕ) → Has w → Has (unblocked w x f)
  unblocked_has w x f h = by (slice_get w.leaves x) refl
    where
      by : (o : Option Leaf) → slice_get w.leaves x ≡ o → Has (active_again w x f o)
      by None e = h
      by (Some leaf) e =
          leaf_has w x (record leaf { phase = resumed leaf.current leaf.reacting; operands = f leaf.operands })
          (λ same. h.keeps leaf (ap (slice_get w.leaves) same ∙ e)) h

  settled_has : (system : System) (x : ℕ) → y ≢ x → (w : World) → Has w → Ends Has (settled system x w)
  settled_has system x ne w h =
      need_ends Has (slice_get w.leaves x) _ _ (λ leaf. when_ends Has _ _ _ (gives _ _ (leaf_has w x (with_peaks w x leaf) (λ e. absurd (ne e)) h)))

  -- a step of this leaf, or of another
  module _ (d : Doing) (h : Has d.world) (own : y ≡ d.x → d.leaf.peaks ≡ p)
      (lasts : y ≡ d.x → serves d.component.node.provides d.component.node.signals ≡ true) where
    stands_has : (leaf : Leaf) → leaf.peaks ≡ d.leaf.peaks → Has (standing d leaf)
    stands_has leaf same = leaf_has d.world d.x leaf (λ e. same ∙ own e) h

    instruct_has : y ≢ d.x → (i : Instruction) → Ends Has (instruct d i)
    instruct_has ne =
        plain_instruct_by d Has Has h slot_has slot_has (λ w operands locals e hw. leaf_has w d.x _ (λ q. absurd (ne q)) hw)
        (λ w operands hw. leaf_has w d.x _ (λ q. absurd (ne q)) hw) (λ w requests hw. record { keeps = hw.keeps }) (settled_has d.system d.x ne)
        (λ w sessions hw. record { keeps = hw.keeps })

    main_has : (o : Option (List ℕ)) (n : ℕ) → (y ≡ d.x → serves o n ≡ true) → Ends Has (main_ended d o n)
    main_has (Some service) n e = gives _ Quiet (stands_has (serving d.leaf) refl)
    main_has None (suc n) e = gives _ Quiet (stands_has (serving d.leaf) refl)
    main_has None zero e = when_ends Has (no_link d.leaf.slots) WrongKind _ (gives _ Finished (record {
      keeps = λ leaf there.
          (let old = released_same d.component.node.name d.system.components (standing d (exited d.leaf)).leaves y leaf there in
          let w = leaf_has d.world d.x (exited d.leaf) (λ q. absurd (true≢false (sym (e q)))) h in
          old.3 ∙ w.keeps old.0 old.1);
    }))

    section_has : (current : Option Current) (reacting : Option ℕ) → Ends Has (section_ended d current reacting)
    section_has =
        section_by d Has slot_has (stands_has (serving d.leaf) refl) unblocked_has (λ w k hw. record { keeps = hw.keeps })
        (main_has d.component.node.provides d.component.node.signals lasts)

    body_has : (loops : List Round) → Ends Has (body_ended d loops)
    body_has [] = section_has d.leaf.current d.leaf.reacting
    body_has (r ∷ loops) = gives _ Quiet (by (nat_lt (suc r.round) r.count))
      where
        by : (b : Bool) → Has (standing d (cond b (record d.leaf { todo = r.body; loops = record r { round = suc r.round } ∷ loops })
            (record d.leaf { todo = r.rest; loops = loops })))
        by true = stands_has _ refl
        by false = stands_has _ refl

    accepted_has : (o : Option (Request × List Request)) → Ends Has (accept_oldest d o)
    accepted_has None = gives d.world Idle h
    accepted_has (Some q) =
        accept_by Has d q.0 q.1 (λ old there. (let w = stands_has (begun d q.0 old) refl in record { keeps = w.keeps }))

    served_has : (signal : Option (ℕ × List Signal)) → Ends Has (serve d signal)
    served_has None = accepted_has (oldest d.world d.x d.world.requests)
    served_has (Some q) = need_ends Has (section_in (Reacting q.0) d.component.node.program.sections) MissingSection _
        (λ body. gives _ Quiet (stands_has (reacting_to d.leaf q.0 q.1 body) refl))

  else_has : (d : Doing) → Has d.world → y ≢ d.x → (todo : Statements) → Ends Has (perform d todo)
  else_has d h ne Done = body_has d h (λ e. absurd (ne e)) (λ e. absurd (ne e)) d.leaf.loops
  else_has d h ne (Do i rest) =
      instruct_has (record d { leaf = record d.leaf { todo = rest } }) h (λ e. absurd (ne e)) (λ e. absurd (ne e)) ne i
  else_has d h ne (If arm other rest) =
      pop_ends Has d.leaf.operands _ (λ a below. gives _ Quiet (stands_has d h (λ e. absurd (ne e)) (λ e. absurd (ne e)) _ refl))
  else_has d h ne (Loop count body rest) = gives _ Quiet (stands_has d h (λ e. absurd (ne e)) (λ e. absurd (ne e)) _ refl)

  kept : (w : World) → Has w → RaisesPeaks y p w
  kept w h = record { raises = λ leaf there. inl (h.keeps leaf there) }

  all_kept : (r : Stepped) → Ends Has r → Ends (RaisesPeaks y p) r
  all_kept r h = record { holds = λ w e is. kept w (h.holds w e is) }

-- a statement, or the end of a section, of the leaf itself
own_raises : (d : Doing) (takes : TakesLeaf d) → d.leaf.peaks ≡ takes.old.peaks → HasPeaks d.x d.leaf.peaks d.world
    → serves d.component.node.provides d.component.node.signals ≡ true
    → AllAre (IsGood d.system d.component) d.leaf.todo → Ends (RaisesPeaks d.x d.leaf.peaks) (perform d d.leaf.todo)
own_raises d takes same h lasts good = by (comes d d.leaf.todo d.leaf.loops good)
  where
    by : Comes d d.leaf.todo d.leaf.loops → Ends (RaisesPeaks d.x d.leaf.peaks) (perform d d.leaf.todo)
    by (Inside inside) = record { holds = λ w e is. record { raises = peaks_inside d takes same w e inside is } }
    by (At_end done out) =
        let ends = all_kept d.x d.leaf.peaks _ (section_has d.x d.leaf.peaks d h (λ e. refl) (λ e. lasts) d.leaf.current d.leaf.reacting) in
        subst (λ t. Ends (RaisesPeaks d.x d.leaf.peaks) (perform d t)) (sym done)
        (subst (λ l. Ends (RaisesPeaks d.x d.leaf.peaks) (body_ended d l)) (sym out) ends)
    by (Asks i rest first served) =
        let e : Doing = record d { leaf = record d.leaf { todo = rest } } in
        let t : TakesLeaf e = record {
          old = takes.old;
          there = takes.there;
          slots = takes.slots;
          phase = takes.phase;
          current = takes.current;
          reacting = takes.reacting;
        } in
        subst (λ t. Ends (RaisesPeaks d.x d.leaf.peaks) (perform d t)) (sym first)
        (record { holds = λ w event is. record { raises = λ leaf there. inl (peaks_asked e t same i served w event is leaf there) } })

-- a step of any leaf
module _ (system : System) (w : World) (x y : ℕ) (old : Leaf) (at : slice_get w.leaves y ≡ Some old)
    (lasts : (c : Component) → slice_get system.components y ≡ Some c → serves c.node.provides c.node.signals ≡ true)
    (good : (c : Component) (leaf : Leaf) → slice_get system.components x ≡ Some c → slice_get w.leaves x ≡ Some leaf → AllAre (IsGood system c) leaf.todo)
  where
    abbrev Raises : World → Type 0
    Raises = RaisesPeaks y old.peaks

    has : HasPeaks y old.peaks w
    has = record { keeps = λ leaf there. ap (λ (l : Leaf). l.peaks) (some_same (sym there ∙ at)) }

    module _ (c : Component) (leaf : Leaf) (placed : slice_get system.components x ≡ Some c) (there : slice_get w.leaves x ≡ Some leaf) where
      abbrev d : Doing
      d = record { system = system; world = w; x = x; component = c; leaf = record leaf { steps = suc leaf.steps } }

      own : y ≡ x → leaf.peaks ≡ old.peaks
      own e = ap (λ (l : Leaf). l.peaks) (some_same (sym there ∙ (ap (slice_get w.leaves) (sym e) ∙ at)))

      own_lasts : y ≡ x → serves c.node.provides c.node.signals ≡ true
      own_lasts e = lasts c (ap (slice_get system.components) e ∙ placed)

      performed : Ends Raises (perform d leaf.todo)
      performed = elim (eqb_tells y x) [
        | inl q ↦
            let takes : TakesLeaf d = record { old = leaf; there = there; slots = refl; phase = refl; current = refl; reacting = refl } in
            let h : HasPeaks x leaf.peaks w = subst (λ z. HasPeaks z leaf.peaks w) q.1 (subst (λ p. HasPeaks y p w) (sym (own q.1)) has) in
            subst (λ z. Ends (RaisesPeaks z old.peaks) (perform d leaf.todo)) (sym q.1)
            (subst (λ p. Ends (RaisesPeaks x p) (perform d leaf.todo)) (own q.1) (own_raises d takes refl h (own_lasts q.1) (good c leaf placed there)))
        | inr q ↦ all_kept y old.peaks _ (else_has y old.peaks d has q.1 leaf.todo)
      ]

      stepped : (phase : Phase) → Ends Raises (step_in d phase)
      stepped Running = performed
      stepped Handling = performed
      stepped Serving = all_kept y old.peaks _ (served_has y old.peaks d has own own_lasts (first_signal leaf.signals))
      stepped Pending = all_kept y old.peaks _ (gives w Idle has)
      stepped Blocked = all_kept y old.peaks _ (gives w Idle has)
      stepped Exited = all_kept y old.peaks _ (gives w Idle has)

    pub next_raises : Ends Raises (next system w x)
    next_raises = by (slice_get system.components x) (slice_get w.leaves x) refl refl
      where
        by : (c : Option Component) (o : Option Leaf) → slice_get system.components x ≡ c → slice_get w.leaves x ≡ o → Ends Raises (step_of system w x c o)
        by (Some c) (Some leaf) e f = stepped c leaf e f leaf.phase
        by (Some c) None e f = all_kept y old.peaks _ (gives w Idle has)
        by None o e f = all_kept y old.peaks _ (gives w Idle has)
