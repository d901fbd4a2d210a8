-- Runs to rest of sound scenarios without races leave the same accounts.
use Rattle.std.proofs.Common.{◌≡◌, ℕ, ◌+◌, Bool, true, false, List, map, Option, Some, None, refl, ap, sym, ◌∙◌, subst}
use Rattle.std.specs.Prelude.{option_map, replicate, slice_get}
use Rattle.std.proofs.lemmas.Bool.{true≢false}
use Rattle.gq_model.specs.declared.phase.Phase.{Phase}
use Rattle.gq_model.specs.declared.phase.Phase.TheVariants.{Pending, Running, Blocked, Serving, Handling, Exited}
use Rattle.gq_model.specs.machine.Scenario.{Component, Scenario, System, system}
use Rattle.gq_model.specs.machine.World.{Leaf, World, start}
use Rattle.gq_model.specs.machine.Run.{run}
use Rattle.gq_model.specs.machine.Accounts.{accounts, handed_to}
use Rattle.gq_model.specs.machine.Sums.{handed}
use Rattle.gq_model.proofs.Small_facts.{none_some, some_same}
use Rattle.gq_laws.specs.Leaf_phases.{AreReady, Suits, serves}
use Rattle.gq_laws.specs.Progress.{rests, AllRest}
use Rattle.gq_laws.specs.Sound_scenarios.{IsSound}
use Rattle.gq_laws.specs.internal.Verified_holdings.{HoldsNone}
use Rattle.gq_laws.specs.Renamed.{renamed_slot}
use Rattle.gq_laws.specs.internal.Uncounted.{uncounted}
use Rattle.gq_laws.proofs.progress.Lasting_world_invariant.{reached_lasts}
use Rattle.gq_races.specs.Races.{IsInputFree, IsRaceFree, IsSignalFree}
use Rattle.gq_determined.specs.Determined.{LeavesSame}
use Rattle.gq_determined.specs.internal.Threads.{Tracked, tracked_after, shown_by, past_of, slots_of, SameAtRest}
use Rattle.gq_determined.specs.internal.Unset.{turns_alone}
use Rattle.gq_determined.proofs.thread_positions.Single_thread_position.{IsTracked}
use Rattle.gq_determined.proofs.thread_runs.At_rest.{at, rest_same, rests_idle, run_world}
use Rattle.gq_determined.proofs.thread_runs.Thread_run_determinism.{all_tracked}
use Rattle.gq_determined.proofs.thread_runs.Sound_runs.{IsFirst, all_pay, all_stand, first_start, good, placed, there_first}
use Rattle.gq_determined.proofs.rest_accounts.Merged_thread_worlds.{AreAlike, account_same}
use Rattle.gq_determined.proofs.rest_accounts.Own_peak_bounds.{AreWithin}
use Rattle.gq_determined.proofs.rest_accounts.Own_peaks_kept.{start_within}
use Rattle.gq_determined.proofs.rest_accounts.Peaks_same.{peaks_ended}
use Rattle.gq_determined.proofs.rest_accounts.Node_accounts_equal.{accounts_same}
use Rattle.gq_determined.proofs.rest_accounts.Thread_step_counts.{counted, steps_total, sum_same}
use Rattle.gq_determined.proofs.without_inputs.Left_out.{leave_same}

-- at rest a leaf serves if it provides a service or has signals, and else has exited
pub phase_at_rest : (w v : World) (y z : ℕ) (l m : Leaf) (provides : Option (List ℕ)) (n : ℕ) (p q : Phase) → rests w y l p ≡ true → rests v z m q ≡ true
    → Suits provides n p → Suits provides n q → q ≡ p
phase_at_rest w v y z l m provides n Serving Serving a b s t = refl
phase_at_rest w v y z l m provides n Exited Exited a b s t = refl
phase_at_rest w v y z l m provides n Serving Exited a b s t = absurd (true≢false (sym s ∙ t))
phase_at_rest w v y z l m provides n Exited Serving a b s t = absurd (true≢false (sym t ∙ s))
phase_at_rest w v y z l m provides n Pending q a b s t = absurd (true≢false (sym a))
phase_at_rest w v y z l m provides n Running q a b s t = absurd (true≢false (sym a))
phase_at_rest w v y z l m provides n Blocked q a b s t = absurd (true≢false (sym a))
phase_at_rest w v y z l m provides n Handling q a b s t = absurd (true≢false (sym a))
phase_at_rest w v y z l m provides n Serving Pending a b s t = absurd (true≢false (sym b))
phase_at_rest w v y z l m provides n Serving Running a b s t = absurd (true≢false (sym b))
phase_at_rest w v y z l m provides n Serving Blocked a b s t = absurd (true≢false (sym b))
phase_at_rest w v y z l m provides n Serving Handling a b s t = absurd (true≢false (sym b))
phase_at_rest w v y z l m provides n Exited Pending a b s t = absurd (true≢false (sym b))
phase_at_rest w v y z l m provides n Exited Running a b s t = absurd (true≢false (sym b))
phase_at_rest w v y z l m provides n Exited Blocked a b s t = absurd (true≢false (sym b))
phase_at_rest w v y z l m provides n Exited Handling a b s t = absurd (true≢false (sym b))

pub exited_at_rest : (w : World) (y : ℕ) (l : Leaf) (provides : Option (List ℕ)) (n : ℕ) (p : Phase) → rests w y l p ≡ true → serves provides n ≡ false
    → Suits provides n p → p ≡ Exited
exited_at_rest w y l provides n Exited a none suits = refl
exited_at_rest w y l provides n Serving a none suits = absurd (true≢false (sym suits ∙ none))
exited_at_rest w y l provides n Pending a none suits = absurd (true≢false (sym a))
exited_at_rest w y l provides n Running a none suits = absurd (true≢false (sym a))
exited_at_rest w y l provides n Blocked a none suits = absurd (true≢false (sym a))
exited_at_rest w y l provides n Handling a none suits = absurd (true≢false (sym a))

module _ (s : Scenario) (sound : IsSound s) (w : World) (root : ℕ → ℕ) (first : IsFirst s w root) (within : AreWithin w) (none : IsRaceFree s)
    (turns others : List ℕ) (rest : AllRest (at s sound w root first turns).world) (rest_other : AllRest (at s sound w root first others).world)
    (ready : AreReady (system s) (at s sound w root first turns).world) (ready_other : AreReady (system s) (at s sound w root first others).world) where
  abbrev u : System
  u = uncounted (system s)

  abbrev g : Tracked
  g = tracked_after u w root turns

  abbrev h : Tracked
  h = tracked_after u w root others

  ended : SameAtRest u w root turns others
  ended = rest_same s sound w root first none turns others rest rest_other

  tracks : IsTracked u g
  tracks = all_tracked u (all_pay (system s)) w root (good s sound w root first none) turns

  tracks_other : IsTracked u h
  tracks_other = all_tracked u (all_pay (system s)) w root (good s sound w root first none) others

  -- the slots of a leaf are the same but for the numbers of sessions
  slots_same : (y : ℕ) → (f : ℕ → ℕ)
      × (option_map slots_of (slice_get h.world.leaves y) ≡ option_map (λ leaf. map (renamed_slot f) (slots_of leaf)) (slice_get g.world.leaves y))
  slots_same y = let s = ended.same (g.own y) (tracks.owned.whole y) in (s.f, s.region.slots y refl)

  -- two leaves at rest
  phases : (y : ℕ) (l m : Leaf) → slice_get g.world.leaves y ≡ Some l → slice_get h.world.leaves y ≡ Some m → m.phase ≡ l.phase
  phases y l m at at_h =
      let c = placed s sound w root first turns y l at in
      phase_at_rest g.world h.world y y l m c.0.node.provides c.0.node.signals l.phase m.phase (rest y l at) (rest_other y m at_h)
      (ready.suits y c.0 l c.1 at) (ready_other.suits y c.0 m c.1 at_h)

  -- and the same peaks: none, where it has exited
  peaks : (y : ℕ) (l m : Leaf) → slice_get g.world.leaves y ≡ Some l → slice_get h.world.leaves y ≡ Some m → m.peaks ≡ l.peaks
  peaks y l m at at_h = by (serves c.0.node.provides c.0.node.signals) refl
    where
      c : (c : Component) × (slice_get u.components y ≡ Some c)
      c = placed s sound w root first turns y l at

      gone : (a : List ℕ) (k : Leaf) → slice_get (tracked_after u w root a).world.leaves y ≡ Some k → k.phase ≡ Exited → k.peaks ≡ replicate 8 0
      gone a k there phase = (subst (HoldsNone k) phase ((all_stand s sound w root first a).held.leaves y c.0 k c.1 there).none).1

      by : (b : Bool) → serves c.0.node.provides c.0.node.signals ≡ b → m.peaks ≡ l.peaks
      by true e =
          sym (peaks_ended s sound w root first within none y turns others (λ i. rests_idle g i rest) (λ i. rests_idle h i rest_other)
          (λ d found. ap (λ (k : Component). serves k.node.provides k.node.signals) (some_same (sym found ∙ c.1)) ∙ e) l m at at_h)
      by false e =
          gone others m at_h (exited_at_rest h.world y m c.0.node.provides c.0.node.signals m.phase (rest_other y m at_h) e
          (ready_other.suits y c.0 m c.1 at_h))
          ∙ sym (gone turns l at (exited_at_rest g.world y l c.0.node.provides c.0.node.signals l.phase (rest y l at) e (ready.suits y c.0 l c.1 at)))

  alike : AreAlike g.world h.world
  alike = record {
    phases = phases;
    peaks = peaks;
    steps = λ y l m at at_h. (
        let old = there_first s sound w root first turns y l at in
        steps_total s sound w root first none others y old.0 m old.1 at_h
        ∙ (ap (λ n. old.0.steps + n) (sum_same (λ j. counted y (shown_by u w root j others)) (λ j. counted y (shown_by u w root j turns)) _
        (λ j. ap (counted y) (sym (ended.shown j))))
        ∙ sym (steps_total s sound w root first none turns y old.0 l old.1 at)));
  }

  -- what is handed to a leaf
  handed_same : (y quantum : ℕ) → handed_to (slice_get h.world.leaves y) quantum ≡ handed_to (slice_get g.world.leaves y) quantum
  handed_same y quantum = by (slice_get g.world.leaves y) (slice_get h.world.leaves y) refl refl
    where
      by : (o p : Option Leaf) → slice_get g.world.leaves y ≡ o → slice_get h.world.leaves y ≡ p → handed_to p quantum ≡ handed_to o quantum
      by None None at at_h = refl
      by None (Some m) at at_h =
          absurd (none_some (sym (sym (ap (option_map slots_of) at_h) ∙ ((slots_same y).1 ∙ ap (option_map _) at))))
      by (Some l) None at at_h =
          absurd (none_some (sym (ap (option_map slots_of) at_h) ∙ ((slots_same y).1 ∙ ap (option_map _) at)))
      by (Some l) (Some m) at at_h = ap (λ p. handed p quantum) (phases y l m at at_h)

  pub accounts_left : (budgets : List ℕ) → accounts s h.world budgets ≡ accounts s g.world budgets
  accounts_left budgets =
      accounts_same s budgets g.world h.world
      (λ version y budget. account_same u g h tracks.placed tracks_other.placed tracks.owned.whole ended.same ended.back alike version budget y
      (slice_get (system s).components y)) handed_same

-- FROM THE START

module _ (s : Scenario) (sound : IsSound s) (none : IsRaceFree s) (turns others : List (ℕ × ℕ)) where
  ready_after : (turns : List (ℕ × ℕ)) → AreReady (system s) (run (system s) (turns_alone turns)).world
  ready_after turns = (reached_lasts s sound (run (system s) (turns_alone turns)).world (record { turns = turns_alone turns; is = refl })).ready

  pub accounts_rest : AllRest (run (system s) (turns_alone turns)).world → AllRest (run (system s) (turns_alone others)).world → (budgets : List ℕ)
      → accounts s (run (system s) (turns_alone turns)).world budgets ≡ accounts s (run (system s) (turns_alone others)).world budgets
  accounts_rest rest rest_other budgets =
      let is = run_world s sound turns in
      let is_other = run_world s sound others in
      ap (λ w. accounts s w budgets) is
      ∙ (sym (accounts_left s sound (start (system s)) (λ k. 0) (first_start s sound) (start_within (system s)) none (past_of turns) (past_of others)
      (subst AllRest is rest) (subst AllRest is_other rest_other) (subst (AreReady (system s)) is (ready_after turns))
      (subst (AreReady (system s)) is_other (ready_after others)) budgets)
      ∙ ap (λ w. accounts s w budgets) (sym is_other))

-- what a run to rest leaves does not depend on its turns and settings
pub leaves_same : (s : Scenario) → IsSound s → IsRaceFree s → IsInputFree s → IsSignalFree s → LeavesSame s
leaves_same s sound none unread still = leave_same s sound unread still (accounts_rest s sound none)
