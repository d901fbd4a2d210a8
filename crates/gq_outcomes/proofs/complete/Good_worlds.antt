-- Each world that turns lead to has holders that fit it, and leaves that start after others start when these have exited.
use Rattle.std.proofs.Common.{◌≡◌, ◌≢◌, ◌⊎◌, inl, inr, ℕ, zero, suc, ◌==◌, ◌&&◌, ◌||◌, Bool, true, false, cond, List, [], ◌∷◌, Option, Some, None, Ok, Err}
use Rattle.std.proofs.Common.{refl}
use Rattle.std.proofs.Common.{ap, sym, ◌∙◌, subst, arith}
use Rattle.std.proofs.lemmas.Option.{slice_get_within}
use Rattle.std.specs.Prelude.{slice_get, slice_set, option_map}
use Rattle.std.proofs.lemmas.Bool.Decides.{eqb_tells}
use Rattle.gq_model.specs.declared.phase.Phase.{Phase}
use Rattle.gq_model.specs.declared.phase.Phase.TheVariants.{Pending, Running, Blocked, Serving, Handling, Exited}
use Rattle.gq_model.specs.declared.program.Instruction.{Instruction}
use Rattle.gq_model.specs.machine.Doing.{Event, Stepped}
use Rattle.gq_model.specs.machine.Run as model
use Rattle.gq_model.specs.machine.Run.{Ran}
use Rattle.gq_model.specs.machine.Scenario.{Component, Scenario, System, system}
use Rattle.gq_model.specs.machine.Step.{all_released, exit_of, exited, first_signal, is_named, next, released}
use Rattle.gq_model.specs.machine.Sums.{paid}
use Rattle.gq_model.specs.machine.World.{Leaf, Session, World, first_phase, session_at, start, start_leaves}
use Rattle.gq_model.proofs.Small_facts.{none_some, some_same, get_within}
use Rattle.gq_laws.specs.Sound_scenarios.{IsSound}
use Rattle.gq_laws.specs.internal.Uncounted.{uncounted}
use Rattle.gq_laws.proofs.session_links.Written_world_links.{set_else}
use Rattle.gq_laws.proofs.progress.Lasting_world_invariant.{Lasts, lasts_next, reached_lasts}
use Rattle.gq_laws.proofs.step_shapes.Step_counting.{stands_still}
use Rattle.gq_laws.proofs.verified_programs.Sound_systems.{is_resolved}
use Rattle.gq_laws.proofs.verified_programs.Use_chains.{Uses, resolved_acyclic}
use Rattle.gq_determined.specs.internal.Threads.{has_work, seen, seen_by, thread_by, who, works, works_for}
use Rattle.gq_determined.proofs.regions.Region_changes.{put_at}
use Rattle.gq_determined.proofs.rest_accounts.Own_peak_bounds.{AreWithin}
use Rattle.gq_determined.proofs.rest_accounts.Own_peaks_kept.{next_within, start_each}
use Rattle.gq_determined.proofs.thread_positions.Single_thread_position.{IsPlaced}
use Rattle.gq_determined.proofs.thread_positions.Turn_thread_position.{IsServing, IsWorking, who_is}
use Rattle.gq_determined.proofs.thread_runs.At_rest.{no_thread}
use Rattle.gq_determined.proofs.thread_steps.Stateless_thread_agreement.{Solo}
use Rattle.gq_determined.proofs.thread_runs.Remaining_section_statements.{AreSections, Lefts, kept_outside, start_outside}
use Rattle.gq_determined.proofs.thread_runs.Sound_runs.{all_pay, goes_by}
use Rattle.gq_determined.proofs.thread_runs.Thread_run_determinism.{start_tracked}
use Rattle.gq_determined.proofs.thread_runs.Uncounted_uses.{cycle_same}
use Rattle.gq_outcomes.proofs.complete.Kept_renamed.{uses}
use Rattle.gq_outcomes.proofs.complete.Held_worlds.{AreQuiet, Held, IsHeld, one, ready, still1, still_held, taken, turn, view}
use Rattle.gq_outcomes.proofs.complete.Step_changes.{AreUnset, next_unset, pends_or_gone, start_unset}
use Rattle.gq_determined.proofs.thread_steps.Signal_flags.{AreSince, signals_at, since_first, since_next}
use Rattle.gq_outcomes.proofs.complete.Unsubmitted_signals.{goes_on, unsubmitted_start}

-- RELEASED LEAVES

released_phase : (name : List ℕ) (cs : List Component) (leaves : List Leaf) (y : ℕ) (c : Component) (l : Leaf) → slice_get cs y ≡ Some c
    → slice_get (all_released name cs leaves) y ≡ Some l
    → (old : Leaf) × (slice_get leaves y ≡ Some old) × (l.phase ≡ released name c.node.after old.phase)
released_phase name [] leaves y c l at e = absurd (none_some at)
released_phase name (d ∷ cs) [] y c l at e = absurd (none_some e)
released_phase name (d ∷ cs) (o ∷ leaves) zero c l at e =
    (o, refl, ap (λ (l : Leaf). l.phase) (sym (some_same e)) ∙ ap (λ (d : Component). released name d.node.after o.phase) (some_same at))
released_phase name (d ∷ cs) (o ∷ leaves) (suc y) c l at e = released_phase name cs leaves y c l at e

exited_stays : (name : List ℕ) (cs : List Component) (leaves : List Leaf) (y : ℕ) (old : Leaf) → slice_get leaves y ≡ Some old → old.phase ≡ Exited
    → (l : Leaf) × (slice_get (all_released name cs leaves) y ≡ Some l) × (l.phase ≡ Exited)
exited_stays name [] leaves y old e is = (old, e, is)
exited_stays name (d ∷ cs) [] y old e is = absurd (none_some e)
exited_stays name (d ∷ cs) (o ∷ leaves) zero old e is = (
  record o { phase = released name d.node.after o.phase },
  refl,
  ap (released name d.node.after) (ap (λ (l : Leaf). l.phase) (some_same e) ∙ is),
)
exited_stays name (d ∷ cs) (o ∷ leaves) (suc y) old e is = exited_stays name cs leaves y old e is

pub seen_exited : (l k : Leaf) → seen l ≡ seen k → k.phase ≡ Exited → l.phase ≡ Exited
seen_exited l k e is = by l.phase refl
  where
    phase : (seen l).phase ≡ Exited
    phase = ap (λ (l : Leaf). l.phase) e ∙ ap (λ p. (seen_by p k).phase) is

    by : (p : Phase) → l.phase ≡ p → p ≡ Exited
    by Exited f = refl
    by Pending f = absurd (ne (sym (ap (λ p. (seen_by p l).phase) f) ∙ phase))
      where
        ne : Running ≡ Exited → ⊥
        ne e = cc
    by Running f = absurd (ne (sym (ap (λ p. (seen_by p l).phase) f) ∙ phase))
      where
        ne : Running ≡ Exited → ⊥
        ne e = cc
    by Blocked f = absurd (ne (sym (ap (λ p. (seen_by p l).phase) f) ∙ phase))
      where
        ne : Blocked ≡ Exited → ⊥
        ne e = cc
    by Serving f = absurd (ne (sym (ap (λ p. (seen_by p l).phase) f) ∙ phase))
      where
        ne : Serving ≡ Exited → ⊥
        ne e = cc
    by Handling f = absurd (ne (sym (ap (λ p. (seen_by p l).phase) f) ∙ phase))
      where
        ne : Handling ≡ Exited → ⊥
        ne e = cc

phase_pending : (p : Phase) → (p ≡ Pending) ⊎ (p ≡ Pending → ⊥)
phase_pending Pending = inl refl
phase_pending Running = inr (λ e. cc)
phase_pending Blocked = inr (λ e. cc)
phase_pending Serving = inr (λ e. cc)
phase_pending Handling = inr (λ e. cc)
phase_pending Exited = inr (λ e. cc)

-- a leaf of this name has exited
pub record HasExited (u : System) (w : World) (name : List ℕ) : Type 0 where
  pub z : ℕ
  pub component : Component
  pub leaf : Leaf
  pub placed : slice_get u.components z ≡ Some component
  pub named : is_named component.node.name (Some name) ≡ true
  pub there : slice_get w.leaves z ≡ Some leaf
  pub phase : leaf.phase ≡ Exited

-- a leaf that has started after another started when that had exited
pub record AreStarted (u : System) (w : World) : Type 0 where
  pub each : (y : ℕ) (c : Component) (l : Leaf) (name : List ℕ) → slice_get u.components y ≡ Some c → slice_get w.leaves y ≡ Some l → c.node.after ≡ Some name
      → (l.phase ≡ Pending → ⊥) → HasExited u w name

start_phases : (cs : List Component) (y : ℕ) (c : Component) (l : Leaf) → slice_get cs y ≡ Some c → slice_get (start_leaves cs) y ≡ Some l
    → l.phase ≡ first_phase c.node.after
start_phases [] y c l at e = absurd (none_some at)
start_phases (d ∷ cs) zero c l at e =
    ap (λ (l : Leaf). l.phase) (sym (some_same e)) ∙ ap (λ (d : Component). first_phase d.node.after) (some_same at)
start_phases (d ∷ cs) (suc y) c l at e = start_phases cs y c l at e

module _ (s : Scenario) (sound : IsSound s) (holds : ℕ → Bool) (P : ℕ → Component → Bool → Instruction → Type 0)
    (sections : AreSections P (uncounted (system s))) (quiet_of : (w : World) → Lefts P (uncounted (system s)) w → AreQuiet holds w) where
  abbrev pub u : System
  u = uncounted (system s)

  abbrev pub real : System
  real = system s

  pub pays : (z : World) → paid u z ≡ true
  pays = all_pay real

  pub record Good (m : Held) : Type 0 where
    pub held : IsHeld u holds m
    pub lasts : Lasts s m.world
    pub unset : AreUnset m.world
    pub within : AreWithin m.world
    pub started : AreStarted u m.world
    pub left : Lefts P u m.world
    -- each signal is as it was at the start, or has been taken
    pub since : AreSince (signals_at (start u)) m.world

  pub quiet : (m : Held) → Good m → AreQuiet holds m.world
  quiet m h = quiet_of m.world h.left

  -- each turn goes on
  pub goes : (m : Held) → Good m → (x : ℕ) → (p : World × Event) × (next u m.world x ≡ Ok p) × (next real m.world x ≡ Ok p)
  goes m h x = goes_by s sound m.world x h.lasts.stands

  -- a leaf that is there has a component
  pub placed : (m : Held) → Good m → (x : ℕ) (l : Leaf) → slice_get m.world.leaves x ≡ Some l → (c : Component) × (slice_get u.components x ≡ Some c)
  placed m h x l at =
      let below = slice_get_within m.world.leaves x l at in
      let count = h.lasts.stands.whole.count in get_within u.components x (omega (arith, below, count))

  pub component_of : (m : Held) → Good m → (x i : ℕ) → who (view m) x ≡ Some i → (c : Component) × (slice_get u.components x ≡ Some c)
  component_of m h x i is = by (who_is (view m) i x is)
    where
      by : IsWorking (view m) i x ⊎ IsServing (view m) i x → (c : Component) × (slice_get u.components x ≡ Some c)
      by (inl w) = placed m h x w.at.leaf w.at.there
      by (inr p) = placed m h x p.leaf p.there

  -- A TURN

  module _ (m : Held) (h : Good m) (i x : ℕ) (is : who (view m) x ≡ Some i) where
    abbrev pub c : Component
    c = (component_of m h x i is).0

    abbrev pub there_c : slice_get u.components x ≡ Some c
    there_c = (component_of m h x i is).1

    abbrev pub new : World
    new = (goes m h x).0.0

    abbrev pub event : Event
    event = (goes m h x).0.1

    abbrev pub stepped : next u m.world x ≡ Ok (new, event)
    stepped = (goes m h x).1

    pub lasts_new : Lasts s new
    lasts_new = lasts_next s sound m.world x new event h.lasts (goes m h x).2

    pub uses_new : (k : ℕ) (t : Session) → session_at new k ≡ Some t → Uses u t.client t.server
    uses_new k t at = let r = uses s new lasts_new k t at in (r.0, r.1, r.2)

    abbrev pub later : Held
    later = turn holds m x i new

    abbrev before : Held
    before = taken holds m x i

    pub solo_one : Solo u pays (view before) (ready u holds m h.held (quiet m h) i x is).placed (still1 u holds m h.held (quiet m h) i x is) i x
        (ready u holds m h.held (quiet m h) i x is).who_is_i c there_c new
    solo_one = one u holds m h.held (quiet m h) i x is pays c there_c new event stepped uses_new

    -- the leaf has not exited
    not_exited : (k : Leaf) → slice_get m.world.leaves x ≡ Some k → k.phase ≡ Exited → ⊥
    not_exited k at e = by (who_is (view m) i x is)
      where
        running : Running ≡ Exited → ⊥
        running e = cc

        handling : Handling ≡ Exited → ⊥
        handling e = cc

        serving : Serving ≡ Exited → ⊥
        serving e = cc

        same : (l : Leaf) → slice_get m.world.leaves x ≡ Some l → l.phase ≡ Exited
        same l at_l = ap (λ (l : Leaf). l.phase) (some_same (sym at_l ∙ at)) ∙ e

        by : IsWorking (view m) i x ⊎ IsServing (view m) i x → ⊥
        by (inl w) = elim (goes_on (view m) h.held.calm i x w) [
          | inl r ↦ running (sym r ∙ same w.at.leaf w.at.there)
          | inr r ↦ handling (sym r ∙ same w.at.leaf w.at.there)
        ]
        by (inr p) = serving (sym p.serves ∙ same p.leaf p.there)

    not_waiting : (k : Leaf) → slice_get m.world.leaves x ≡ Some k → (k.phase ≡ Pending) ⊎ (k.phase ≡ Blocked) → ⊥
    not_waiting k at e = by (who_is (view m) i x is) e
      where
        runs : (l : Leaf) → slice_get m.world.leaves x ≡ Some l → (l.phase ≡ Running) ⊎ ((l.phase ≡ Handling) ⊎ (l.phase ≡ Serving))
            → (k.phase ≡ Pending) ⊎ (k.phase ≡ Blocked) → ⊥
        runs l at_l p q = of (subst (λ (l : Leaf). (l.phase ≡ Running) ⊎ ((l.phase ≡ Handling) ⊎ (l.phase ≡ Serving))) (some_same (sym at_l ∙ at)) p) q
          where
            a1 : Running ≡ Pending → ⊥
            a1 e = cc

            a2 : Running ≡ Blocked → ⊥
            a2 e = cc

            a3 : Handling ≡ Pending → ⊥
            a3 e = cc

            a4 : Handling ≡ Blocked → ⊥
            a4 e = cc

            a5 : Serving ≡ Pending → ⊥
            a5 e = cc

            a6 : Serving ≡ Blocked → ⊥
            a6 e = cc

            of : (k.phase ≡ Running) ⊎ ((k.phase ≡ Handling) ⊎ (k.phase ≡ Serving)) → (k.phase ≡ Pending) ⊎ (k.phase ≡ Blocked) → ⊥
            of (inl r) (inl f) = a1 (sym r ∙ f)
            of (inl r) (inr f) = a2 (sym r ∙ f)
            of (inr (inl r)) (inl f) = a3 (sym r ∙ f)
            of (inr (inl r)) (inr f) = a4 (sym r ∙ f)
            of (inr (inr r)) (inl f) = a5 (sym r ∙ f)
            of (inr (inr r)) (inr f) = a6 (sym r ∙ f)

        by : IsWorking (view m) i x ⊎ IsServing (view m) i x → (k.phase ≡ Pending) ⊎ (k.phase ≡ Blocked) → ⊥
        by (inl w) q = elim (goes_on (view m) h.held.calm i x w) [
          | inl r ↦ runs w.at.leaf w.at.there (inl r) q
          | inr r ↦ runs w.at.leaf w.at.there (inr (inl r)) q
        ]
        by (inr p) q = runs p.leaf p.there (inr (inr p.serves)) q

    -- a leaf that has exited stays so
    pub exited_kept : (z : ℕ) (k : Leaf) → slice_get m.world.leaves z ≡ Some k → k.phase ≡ Exited
        → (l : Leaf) × (slice_get new.leaves z ≡ Some l) × (l.phase ≡ Exited)
    exited_kept z k at e = by (slice_get new.leaves z) refl same
      where
        out : (works (view before) i z || z == x) ≡ false
        out = ap (λ o. works_for (view before).root i z o || z == x) at
            ∙ (ap (λ p. has_work p (first_signal k.signals) && (thread_by (view before).root z k.current == i) || z == x) e ∙ elim (eqb_tells z x) [
              | inl q ↦ absurd (not_exited k (ap (slice_get m.world.leaves) (sym q.1) ∙ at) e)
              | inr q ↦ q.0
            ])

        same : option_map seen (slice_get new.leaves z) ≡ option_map seen (slice_get m.world.leaves z)
        same = solo_one.done.rest.at z out

        by : (o : Option Leaf) → slice_get new.leaves z ≡ o → option_map seen (slice_get new.leaves z) ≡ option_map seen (slice_get m.world.leaves z)
            → (l : Leaf) × (slice_get new.leaves z ≡ Some l) × (l.phase ≡ Exited)
        by None f g = absurd (none_some (sym (ap (option_map seen) f) ∙ (g ∙ ap (option_map seen) at)))
        by (Some l) f g = (l, f, seen_exited l k (some_same (sym (ap (option_map seen) f) ∙ (g ∙ ap (option_map seen) at))) e)

    -- the end of a leaf releases those that start after it
    gone_exited : (y : ℕ) (d : Component) (l was : Leaf) (name : List ℕ) → slice_get u.components y ≡ Some d → slice_get new.leaves y ≡ Some l
        → d.node.after ≡ Some name → (l.phase ≡ Pending → ⊥) → slice_get m.world.leaves y ≡ Some was → was.phase ≡ Pending → y ≢ x
        → new ≡ exit_of (record { system = u; world = m.world; x = x; component = c; leaf = record solo_one.a { steps = suc solo_one.a.steps } })
        → HasExited u new name
    gone_exited y d l was name at_d at_l after_is not at pends ne gone =
        let a = record solo_one.a { steps = suc solo_one.a.steps } in
        let set = slice_set m.world.leaves x (exited a) in
        let o = released_phase c.node.name u.components set y d l at_d (ap (λ (w : World). slice_get w.leaves y) (sym gone) ∙ at_l) in
        let old : o.0 ≡ was = some_same (sym o.1 ∙ (set_else m.world.leaves x y (exited a) ne ∙ at)) in
        let phase : l.phase ≡ cond (is_named c.node.name (Some name)) Running Pending
        = o.2 ∙ (ap (λ (k : Leaf). released c.node.name d.node.after k.phase) old ∙ (ap (released c.node.name d.node.after) pends
        ∙ ap (λ n. cond (is_named c.node.name n) Running Pending) after_is)) in
        let k = exited_stays c.node.name u.components set x (exited a)
        (put_at m.world.leaves x x (exited a) refl ∙ ap (option_map (λ (b : Leaf). exited a)) solo_one.there) refl in
        record {
          z = x;
          component = c;
          leaf = k.0;
          placed = there_c;
          named = by (is_named c.node.name (Some name)) refl phase;
          there = ap (λ (w : World). slice_get w.leaves x) gone ∙ k.1;
          phase = k.2;
        }
      where
        by : (b : Bool) → is_named c.node.name (Some name) ≡ b → l.phase ≡ cond b Running Pending → is_named c.node.name (Some name) ≡ true
        by true e f = e
        by false e f = absurd (not f)

    started_new : AreStarted u new
    started_new = record { each = λ y d l name at_d at_l after_is not. by y d l name at_d at_l after_is not (slice_get m.world.leaves y) refl }
      where
        kept : (y : ℕ) (d : Component) (was : Leaf) (name : List ℕ) → slice_get u.components y ≡ Some d → d.node.after ≡ Some name
            → slice_get m.world.leaves y ≡ Some was → (was.phase ≡ Pending → ⊥) → HasExited u new name
        kept y d was name at_d after_is at ne =
            let o = h.started.each y d was name at_d at after_is ne in
            let k = exited_kept o.z o.leaf o.there o.phase in
            record { z = o.z; component = o.component; leaf = k.0; placed = o.placed; named = o.named; there = k.1; phase = k.2 }

        gone : (y : ℕ) (d : Component) (l was : Leaf) (name : List ℕ) → slice_get u.components y ≡ Some d → slice_get new.leaves y ≡ Some l
            → d.node.after ≡ Some name → (l.phase ≡ Pending → ⊥) → slice_get m.world.leaves y ≡ Some was → was.phase ≡ Pending → y ≢ x → HasExited u new name
        gone y d l was name at_d at_l after_is not at pends ne =
            elim (pends_or_gone u m.world h.held.placed.linked x y ne c solo_one.a solo_one.there (λ b. not_waiting solo_one.a solo_one.there (inr b)) was at
            pends there_c new event stepped) [
              | inl stays ↦ absurd (not (stays l at_l))
              | inr g ↦ gone_exited y d l was name at_d at_l after_is not at pends ne g.0
            ]

        by : (y : ℕ) (d : Component) (l : Leaf) (name : List ℕ) → slice_get u.components y ≡ Some d → slice_get new.leaves y ≡ Some l → d.node.after ≡ Some name
            → (l.phase ≡ Pending → ⊥) → (o : Option Leaf) → slice_get m.world.leaves y ≡ o → HasExited u new name
        by y d l name at_d at_l after_is not None e =
            let below = slice_get_within new.leaves y l at_l in
            let count = lasts_new.stands.whole.count in
            let old = h.lasts.stands.whole.count in
            let k = get_within m.world.leaves y (omega (arith, below, count, old)) in absurd (none_some (sym e ∙ k.1))
        by y d l name at_d at_l after_is not (Some was) e = elim (phase_pending was.phase) [
          | inr ne ↦ kept y d was name at_d after_is e ne
          | inl pends ↦ gone y d l was name at_d at_l after_is not e pends
              (λ same. not_waiting was (ap (slice_get m.world.leaves) (sym same) ∙ e) (inl pends))
        ]

    -- what holds of good worlds holds again
    pub good_next : Good later
    good_next = record {
      held = still_held u holds m h.held (quiet m h) i x is pays c there_c new event stepped uses_new;
      lasts = lasts_new;
      unset = next_unset u m.world x new event h.unset stepped;
      within = next_within u m.world x new event h.within stepped;
      started = started_new;
      left = kept_outside P u sections m.world x new event h.left stepped;
      since = since_next (signals_at (start u)) u m.world x new event h.since stepped;
    }

  -- THE START

  abbrev pub first : Held
  first = record { world = start u; base = λ k. 0; hold = λ y. y }

  start_placed : IsPlaced u (view first)
  start_placed = (start_tracked u (cycle_same real 0 real.components ∙ resolved_acyclic s (is_resolved s sound.accepted))).placed

  pub good_first : Good first
  good_first = record {
    held = record {
      placed = start_placed;
      based = λ k t e. absurd (none_some e);
      whole = λ y. refl;
      only = λ y ne. absurd (ne refl);
      busy = λ y phase q can at. absurd (none_some (start_placed.linked.handles y phase q at).1);
      free = λ y off. refl;
      calm = unsubmitted_start u;
    };
    lasts = reached_lasts s sound (start real) (record { turns = []; is = refl });
    unset = record { each = start_unset u.components };
    within = record { each = start_each u.components };
    started = record {
      each = λ y c l name at_c at_l after_is not. absurd (not (start_phases u.components y c l at_c at_l ∙ ap first_phase after_is));
    };
    left = start_outside P u sections;
    since = since_first (start u);
  }

  -- RUNS

  pub record Stands (w : World) : Type 0 where
    pub m : Held
    pub is : m.world ≡ w
    pub good : Good m

  pub stands_turn : (w : World) (x : ℕ) (r : Ran) → r.world ≡ w → Stands w → (p : Stepped) → next real r.world x ≡ p
      → Stands (model.after_step real x r p).world
  stands_turn w x r at h (Err wrong) e = subst Stands (sym at) h
  stands_turn w x r at h (Ok p) e = by (who (view h.m) x) refl
    where
      same : next real h.m.world x ≡ Ok p
      same = ap (λ w. next real w x) (h.is ∙ sym at) ∙ e

      ok_same : {a b : World × Event} → ◌≡◌ {A = Stepped} (Ok a) (Ok b) → a ≡ b
      ok_same e = cc

      by : (o : Option ℕ) → who (view h.m) x ≡ o → Stands p.0
      by (Some i) is = record {
        m = turn holds h.m x i (goes h.m h.good x).0.0;
        is = ap (λ (q : World × Event). q.0) (ok_same (sym (goes h.m h.good x).2 ∙ same));
        good = good_next h.m h.good i x is;
      }
      by None is = record {
        m = h.m;
        is = ap (λ (q : World × Event). q.0) (ok_same (sym (stands_still real h.m.world x (no_thread (view h.m) x (slice_get real.components x) is)) ∙ same));
        good = h.good;
      }
