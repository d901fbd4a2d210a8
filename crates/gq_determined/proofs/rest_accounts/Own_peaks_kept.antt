-- No peak of a leaf is below what its own slots have in use: steps, and the worlds of runs.
use Rattle.std.proofs.Common.{◌≡◌, ℕ, zero, suc, Bool, true, false, cond, nat_lt, List, [], ◌∷◌, Option, Some, None, Ok, refl, ap, sym, subst, arith}
use Rattle.std.specs.Prelude.{replicate, slice_get, sum_by}
use Rattle.std.proofs.lemmas.List.Sums.{sum_by-cons}
use Rattle.gq_tariff.specs.Prices.{classes}
use Rattle.gq_model.specs.declared.fault.Wrong.TheVariants.{WrongKind, ExceededQuota, MissingSection}
use Rattle.gq_model.specs.declared.phase.Phase.{Phase}
use Rattle.gq_model.specs.declared.phase.Phase.TheVariants.{Pending, Running, Blocked, Serving, Handling, Exited}
use Rattle.gq_model.specs.declared.section.Section.{Section}
use Rattle.gq_model.specs.declared.section.Section.TheVariants.{Main, Opening, Upgrading, Calling, Closing, Reacting}
use Rattle.gq_model.specs.machine.Program.{Statements, Done, Do, If, Loop, section_in}
use Rattle.gq_model.specs.machine.Scenario.{Scenario, System, Component, system}
use Rattle.gq_model.specs.machine.World.{Empty, Link, Session, Request, Current, Signal, Round, Leaf, World, session_at, with_slot, start_leaves, start}
use Rattle.gq_model.specs.machine.Doing.{Doing, Event, Idle, Quiet, Finished, standing}
use Rattle.gq_model.specs.machine.Step.{oldest, all_released, serving, resumed, active_again, unblocked, replied, reply_close, reply, all_empty, exited}
use Rattle.gq_model.specs.machine.Step.{exit_of, no_link, main_ended, section_ended, body_ended, perform, accept_oldest, first_signal, reacting_to, serve}
use Rattle.gq_model.specs.machine.Step.{step_in, step_of, next}
use Rattle.gq_model.specs.machine.Sums.{paid, slot_places}
use Rattle.gq_model.proofs.Small_facts.{none_some, some_same}
use Rattle.gq_laws.specs.Sound_scenarios.{IsSound}
use Rattle.gq_laws.specs.internal.Uncounted.{uncounted}
use Rattle.gq_laws.proofs.step_shapes.Step_end_shapes.{Ends, fails, gives, need_ends, when_ends, pop_ends}
use Rattle.gq_laws.proofs.step_shapes.Step_change_shapes.{accept_by}
use Rattle.gq_laws.proofs.step_shapes.Step_end_worlds.{begun, closed}
use Rattle.gq_determined.specs.internal.Threads.{Tracked, who, tracked_after, stepped_to, ready, turn_for}
use Rattle.gq_determined.proofs.thread_runs.Sound_runs.{IsFirst, all_stand, goes_by}
use Rattle.gq_determined.proofs.rest_accounts.Own_peak_bounds.{Within, AreWithin, with_own, all_else, put_light, stands, instruct_within}

-- WHAT HOLDS NOTHING

empty_none : (n c : ℕ) → sum_by (slot_places c) (replicate n Empty) ≡ 0
empty_none zero c = refl
empty_none (suc n) c = let h = empty_none n c in omega (arith, h, sum_by-cons (slot_places c) Empty (replicate n Empty))

zero_within : (n m : ℕ) (cs : List ℕ) → Within cs (replicate n Empty) (replicate m 0)
zero_within n m [] = tt
zero_within n zero (c ∷ cs) = tt
zero_within n (suc m) (c ∷ cs) = let h = empty_none n c in (omega (arith, h), zero_within n m cs)

-- LEAVES THAT GO ON

unblocked_within : (w : World) (x : ℕ) (f : List ℕ → List ℕ) → AreWithin w → AreWithin (unblocked w x f)
unblocked_within w x f h = by (slice_get w.leaves x) refl
  where
    by : (o : Option Leaf) → slice_get w.leaves x ≡ o → AreWithin (active_again w x f o)
    by None e = h
    by (Some leaf) e = with_own w x (record leaf { phase = resumed leaf.current leaf.reacting; operands = f leaf.operands }) (h.each x leaf e) (all_else w x h)

pub released_same : (name : List ℕ) (cs : List Component) (leaves : List Leaf) (y : ℕ) (leaf : Leaf) → slice_get (all_released name cs leaves) y ≡ Some leaf
    → (old : Leaf) × (slice_get leaves y ≡ Some old) × (leaf.slots ≡ old.slots) × (leaf.peaks ≡ old.peaks)
released_same name [] leaves y leaf e = (leaf, e, refl, refl)
released_same name (c ∷ cs) [] y leaf e = absurd (none_some e)
released_same name (c ∷ cs) (l ∷ leaves) zero leaf e = (l, refl, ap (λ (k : Leaf). k.slots) (sym (some_same e)), ap (λ (k : Leaf). k.peaks) (sym (some_same e)))
released_same name (c ∷ cs) (l ∷ leaves) (suc y) leaf e = released_same name cs leaves y leaf e

module _ (d : Doing) (h : AreWithin d.world) (own : Within classes d.leaf.slots d.leaf.peaks) where
  served : AreWithin (standing d (serving d.leaf))
  served = stands d h own (serving d.leaf) refl refl

  exit_within : AreWithin (exit_of d)
  exit_within =
      let w = with_own d.world d.x (exited d.leaf) (zero_within 64 8 classes) (all_else d.world d.x h) in
      record {
        each = λ y leaf e.
            (let old = released_same d.component.node.name d.system.components (standing d (exited d.leaf)).leaves y leaf e in
            subst (λ slots. Within classes slots leaf.peaks) (sym old.2) (subst (Within classes old.0.slots) (sym old.3) (w.each y old.0 old.1)));
      }

  main_within : (provides : Option (List ℕ)) (signals : ℕ) → Ends AreWithin (main_ended d provides signals)
  main_within (Some service) signals = gives _ Quiet served
  main_within None (suc n) = gives _ Quiet served
  main_within None zero = when_ends AreWithin (no_link d.leaf.slots) WrongKind _ (gives _ Finished exit_within)

  replied_within : (k : ℕ) (s : Session) (f : List ℕ → List ℕ) → Ends AreWithin (replied d k s f)
  replied_within k s f =
      gives _ Quiet (unblocked_within (with_slot (standing d (serving d.leaf)) s.slot_id (Link k)) s.client f
      (put_light (standing d (serving d.leaf)) s.slot_id (Link k) (λ c. refl) served))

  close_within : (k : ℕ) (s : Session) → Ends AreWithin (reply_close d k s)
  close_within k s =
      let w = put_light (standing d (serving d.leaf)) s.slot_id Empty (λ c. refl) served in
      when_ends AreWithin (all_empty s.slots) WrongKind _ (when_ends AreWithin (paid d.system (closed d k s)) ExceededQuota _ (gives (closed d k s) Quiet
      (unblocked_within _ s.client (λ operands. operands) (record { each = w.each }))))

  reply_within : (k : ℕ) (section : Section) (s : Session) → Ends AreWithin (reply d k section s)
  reply_within k Main s = fails _
  reply_within k Opening s = when_ends AreWithin _ _ _ (replied_within k s _)
  reply_within k (Upgrading l) s = replied_within k s _
  reply_within k (Calling l) s = pop_ends AreWithin _ _ (λ a rest. replied_within k s _)
  reply_within k (Closing l) s = close_within k s
  reply_within k (Reacting i) s = fails _

  section_within : (current : Option Current) (reacting : Option ℕ) → Ends AreWithin (section_ended d current reacting)
  section_within None None = main_within d.component.node.provides d.component.node.signals
  section_within None (Some i) = gives _ Quiet served
  section_within (Some current) reacting = need_ends AreWithin (session_at d.world current.session) WrongKind _ (reply_within current.session current.section)

  body_within : (loops : List Round) → Ends AreWithin (body_ended d loops)
  body_within [] = section_within d.leaf.current d.leaf.reacting
  body_within (r ∷ loops) = gives _ Quiet (by (nat_lt (suc r.round) r.count))
    where
      by : (b : Bool) → AreWithin (standing d (cond b (record d.leaf { todo = r.body; loops = record r { round = suc r.round } ∷ loops })
          (record d.leaf { todo = r.rest; loops = loops })))
      by true = stands d h own _ refl refl
      by false = stands d h own _ refl refl

  perform_within : (todo : Statements) → Ends AreWithin (perform d todo)
  perform_within Done = body_within d.leaf.loops
  perform_within (Do i rest) = instruct_within (record d { leaf = record d.leaf { todo = rest } }) h own i
  perform_within (If arm other rest) = pop_ends AreWithin d.leaf.operands _ (λ a below. gives _ Quiet (stands d h own _ refl refl))
  perform_within (Loop count body rest) = gives _ Quiet (stands d h own _ refl refl)

  accepted_within : (o : Option (Request × List Request)) → Ends AreWithin (accept_oldest d o)
  accepted_within None = gives d.world Idle h
  accepted_within (Some p) = accept_by AreWithin d p.0 p.1 (λ old there. record { each = (stands d h own (begun d p.0 old) refl refl).each })

  served_within : (signal : Option (ℕ × List Signal)) → Ends AreWithin (serve d signal)
  served_within None = accepted_within (oldest d.world d.x d.world.requests)
  served_within (Some p) = need_ends AreWithin (section_in (Reacting p.0) d.component.node.program.sections) MissingSection _
      (λ body. gives _ Quiet (stands d h own (reacting_to d.leaf p.0 p.1 body) refl refl))

  step_within : (phase : Phase) → Ends AreWithin (step_in d phase)
  step_within Running = perform_within d.leaf.todo
  step_within Handling = perform_within d.leaf.todo
  step_within Serving = served_within (first_signal d.leaf.signals)
  step_within Pending = gives d.world Idle h
  step_within Blocked = gives d.world Idle h
  step_within Exited = gives d.world Idle h

-- STEPS

next_by : (system : System) (w : World) (x : ℕ) (c : Option Component) (leaf : Option Leaf) → AreWithin w → slice_get w.leaves x ≡ leaf
    → Ends AreWithin (step_of system w x c leaf)
next_by system w x (Some c) (Some leaf) h there =
    step_within (record { system = system; world = w; x = x; component = c; leaf = record leaf { steps = suc leaf.steps } }) h (h.each x leaf there) leaf.phase
next_by system w x (Some c) None h there = gives w Idle h
next_by system w x None leaf h there = gives w Idle h

pub next_within : (system : System) (w : World) (x : ℕ) (new : World) (event : Event) → AreWithin w → next system w x ≡ Ok (new, event) → AreWithin new
next_within system w x new event h e = (next_by system w x (slice_get system.components x) (slice_get w.leaves x) h refl).holds new event e

-- RUNS

pub start_each : (cs : List Component) (y : ℕ) (leaf : Leaf) → slice_get (start_leaves cs) y ≡ Some leaf → Within classes leaf.slots leaf.peaks
start_each [] y leaf e = absurd (none_some e)
start_each (c ∷ cs) zero leaf e = subst (λ (l : Leaf). Within classes l.slots l.peaks) (some_same e) (zero_within 64 8 classes)
start_each (c ∷ cs) (suc y) leaf e = start_each cs y leaf e

pub start_within : (system : System) → AreWithin (start system)
start_within system = record { each = start_each system.components }

module _ (s : Scenario) (sound : IsSound s) (w : World) (root : ℕ → ℕ) (first : IsFirst s w root) (within : AreWithin w) where
  abbrev u : System
  u = uncounted (system s)

  abbrev at : List ℕ → Tracked
  at = tracked_after u w root

  pub all_within : (a : List ℕ) → AreWithin (at a).world
  all_within [] = within
  all_within (x ∷ a) = by (all_within a) (who (at a) x)
    where
      by : AreWithin (at a).world → (o : Option ℕ) → AreWithin (turn_for u (at a) x o).world
      by h None = h
      by h (Some i) =
          let p = goes_by s sound (at a).world x (all_stand s sound w root first a) in
          subst (λ g. AreWithin g.world) (sym (ap (stepped_to (ready u (at a) x i) x i) p.1)) (next_within u (at a).world x p.0.0 p.0.1 h p.1)
