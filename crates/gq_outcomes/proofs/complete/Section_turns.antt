-- Turns of servers that are never held and are done with `main`: from two worlds in which all threads have the same, each thread has the same after as many.
use Rattle.std.proofs.Common.{◌≡◌, ◌≢◌, ◌<◌, ◌⊎◌, inl, inr, ℕ, ◌+◌, ◌==◌, Bool, true, false, cond, List, [], ◌∷◌, ◌++◌, length, Option, Some, None}
use Rattle.std.proofs.Common.{refl, ap, sym, ◌∙◌, subst, arith}
use Rattle.std.specs.Prelude.{slice_get, slice_index}
use Rattle.std.proofs.lemmas.Bool.{true≢false}
use Rattle.std.proofs.lemmas.Bool.Decides.{eqb_tells}
use Rattle.std.proofs.lemmas.List.{append-nil, length-map}
use Rattle.std.proofs.lemmas.Option.{slice_get_within}
use Rattle.gq_tariff.specs.Prices.{classes}
use Rattle.gq_model.specs.declared.phase.Phase.{Phase}
use Rattle.gq_model.specs.declared.phase.Phase.TheVariants.{Pending, Running, Blocked, Serving, Handling, Exited}
use Rattle.gq_model.specs.declared.program.Instruction.{Instruction}
use Rattle.gq_model.specs.machine.Scenario.{Component, Scenario, System, system}
use Rattle.gq_model.specs.machine.World.{Current, Leaf, World}
use Rattle.gq_model.proofs.Small_facts.{equal_self, none_some, some_same}
use Rattle.gq_laws.specs.Session_links.{Fits, links, stance, stance_in}
use Rattle.gq_laws.specs.Sound_scenarios.{IsSound}
use Rattle.gq_model.specs.machine.Rest.{can_run, runs, runs_as}
use Rattle.gq_laws.specs.Turn_effects.{steps_of}
use Rattle.gq_laws.specs.internal.Uncounted.{uncounted}
use Rattle.gq_laws.proofs.session_links.Asked_request_changes.{same_current, same_phase}
use Rattle.gq_laws.proofs.session_links.Linked_after_reply.{leaf_of_stance}
use Rattle.gq_laws.proofs.verified_programs.Use_chains.{Uses}
use Rattle.gq_races.specs.Races.{is_shared}
use Rattle.gq_determined.specs.internal.Thread_machines.{is_for}
use Rattle.gq_determined.specs.internal.Threads.{is_active, thread_by, who, IsSameThread}
use Rattle.gq_determined.proofs.rest_accounts.Peaks_same.{most, most_same}
use Rattle.gq_determined.proofs.thread_positions.First_request_given.{equal_of}
use Rattle.gq_determined.proofs.thread_positions.Single_thread_position.{IsWaiting, handled, root_waits}
use Rattle.gq_determined.proofs.thread_positions.Turn_thread_position.{IsAt, IsServing, IsWorking, at_back, at_other, requested, same_place, who_is}
use Rattle.gq_determined.proofs.thread_runs.Raceless_first_statements.{OpensThere}
use Rattle.gq_determined.proofs.thread_runs.Remaining_section_statements.{AreSections, Lefts}
use Rattle.gq_determined.proofs.thread_steps.Thread_reflexivity.{thread_itself}
use Rattle.gq_outcomes.proofs.machines.Two_starts as two
use Rattle.gq_outcomes.proofs.complete.Counted_turns.{lists_same, raised_one, sum_none, sum_one, sum_same, sum_to, times_in, times_more}
use Rattle.gq_outcomes.proofs.complete.Held_worlds.{AreQuiet, Held, view}
use Rattle.gq_outcomes.proofs.complete.Good_worlds.{placed}
use Rattle.gq_outcomes.proofs.complete.Order_of_requests.{asked_of, oldest_roots, roots_in, roots_to}
use Rattle.gq_outcomes.proofs.complete.Order_steps.{ordered}
use Rattle.gq_outcomes.proofs.complete.Unheld_asks.{never_asks}
use Rattle.gq_outcomes.proofs.complete.Alike_held.{AreOne, IsGood, Serves, alive, asked_same, end, full, good_end, leaf_before, off_hold, off_left, off_right}
use Rattle.gq_outcomes.proofs.complete.Alike_held.{raises, slots_same, steps_end, thread_end}
use Rattle.gq_outcomes.proofs.complete.Opened_sections.{AreBy, Begun, begun_kept, by_next}
use Rattle.gq_outcomes.proofs.complete.Lone_askers.{asks_or}
use Rattle.gq_outcomes.proofs.complete.Rest_alike.{some_asks}
use Rattle.gq_outcomes.proofs.complete.Sections_below.{none_waits}
use Rattle.gq_outcomes.proofs.complete.Unsubmitted_signals.{active_at, goes_on, works_as}

pub split_at : (b : Bool) (o : Option ℕ) (i : ℕ) → cond b o None ≡ Some i → (b ≡ true) × (o ≡ Some i)
split_at true o i e = (refl, e)
split_at false o i e = absurd (none_some e)

pub none_is : (i : ℕ) (o : Option ℕ) → o ≡ None → o ≡ Some i → ⊥
none_is i o e f = none_some (sym e ∙ f)

module _ (s : Scenario) (sound : IsSound s) (holds : ℕ → Bool) (P : ℕ → Component → Bool → Instruction → Type 0)
    (sections : AreSections P (uncounted (system s))) (quiet_of : (w : World) → Lefts P (uncounted (system s)) w → AreQuiet holds w)
    (opens_of : (x : ℕ) (c : Component) (later : Bool) (i : Instruction) → P x c later i → OpensThere (uncounted (system s)) c later i)
    (v : ℕ → Bool) (off_of : (z : ℕ) → v z ≡ true → holds z ≡ false) where
  abbrev u : System
  u = uncounted (system s)

  -- a world in which these servers are done with `main`
  pub record Stage : Type 0 where
    pub m : Held
    pub good : IsGood s sound holds P sections quiet_of m
    pub opened : AreBy u m.world
    pub begun : (z : ℕ) → v z ≡ true → Begun m.world z

  abbrev pub next_stage : (g : Stage) (i x : ℕ) → who (view g.m) x ≡ Some i → Stage
  next_stage g i x is = record {
    m = end s sound holds P sections quiet_of g.m g.good i x is;
    good = good_end s sound holds P sections quiet_of g.m g.good i x is;
    opened = by_next s sound holds P sections quiet_of opens_of g.m g.good i x is g.opened;
    begun = λ z at. begun_kept s sound holds P sections quiet_of opens_of g.m g.good i x is z (g.begun z at);
  }

  -- the thread of a turn of one of these servers
  abbrev pub who_v : Stage → ℕ → Option ℕ
  who_v g x = cond (v x) (who (view g.m) x) None

  pub split : (g : Stage) (x i : ℕ) → who_v g x ≡ Some i → (v x ≡ true) × (who (view g.m) x ≡ Some i)
  split g x i e = split_at (v x) (who (view g.m) x) i e

  go : (g : Stage) (x : ℕ) (o : Option ℕ) → who_v g x ≡ o → Stage
  go g x None e = g
  go g x (Some i) e = next_stage g i x (split g x i e).1

  pub step : Stage → ℕ → Stage
  step g x = go g x (who_v g x) refl

  pub by_step : (Q : Stage → Type 0) (g : Stage) (x : ℕ) → ((k : ℕ) (e : who_v g x ≡ Some k) → Q (next_stage g k x (split g x k e).1))
      → (who_v g x ≡ None → Q g) → Q (step g x)
  unfolding go step
  by_step Q g x some none = by (who_v g x) refl
    where
      by : (o : Option ℕ) (e : who_v g x ≡ o) → Q (go g x o e)
      by None e = none e
      by (Some k) e = some k e

  -- none of these servers can take a turn
  abbrev pub Still : Stage → Type 0
  Still g = (z : ℕ) → v z ≡ true → can_run u g.m.world z ≡ false

  -- no step is taken for such a server's own thread
  not_main : (g : Stage) (j : ℕ) → v j ≡ true → (links g.m.world).stances j ≡ Some (stance Blocked None) → ⊥
  not_main g j at b =
      let l = leaf_of_stance (slice_get g.m.world.leaves j) (stance Blocked None) b in
      let both : Some (stance l.0.phase l.0.current) ≡ Some (stance Blocked None) = sym (ap stance_in l.1) ∙ b in
      let q = g.begun j at l.0 l.1 (ap is_active (same_phase both)) in none_some (sym (same_current both) ∙ q.1)

  pub no_step : (g : Stage) (j y : ℕ) → v j ≡ true → who (view g.m) y ≡ Some j → ⊥
  no_step g j y at is = by (who_is (view g.m) j y is)
    where
      by : IsWorking (view g.m) j y ⊎ IsServing (view g.m) j y → ⊥
      by (inr p) = not_main g j at (ap (links g.m.world).stances (sym p.root)
          ∙ root_waits u (view g.m) g.good.held.placed p.taken.0.session (requested u (view g.m) g.good.held.placed j y p).waiting)
      by (inl w) = of w.at.leaf.current refl
        where
          of : (current : Option Current) → w.at.leaf.current ≡ current → ⊥
          of None f =
              let same : y ≡ j = sym (ap (thread_by (view g.m).root y) f) ∙ w.at.thread in
              let q = g.begun j at w.at.leaf (ap (slice_get g.m.world.leaves) (sym same) ∙ w.at.there)
              (active_at w.at.leaf.phase (goes_on (view g.m) g.good.held.calm j y w)) in
              none_some (sym f ∙ q.1)
          of (Some q) f =
              let wait = (handled u (view g.m) g.good.held.placed y w.at.leaf.phase q
              (ap stance_in w.at.there ∙ ap (λ o. Some (stance w.at.leaf.phase o)) f)).waiting in
              not_main g j at (ap (links g.m.world).stances (sym (sym (ap (thread_by (view g.m).root y) f) ∙ w.at.thread))
              ∙ root_waits u (view g.m) g.good.held.placed q.session wait)

  -- RUNS FROM TWO WORLDS

  abbrev pub shows : Stage → ℕ → List ℕ
  shows g x = x ∷ []

  abbrev pub after : Stage → List ℕ → Stage
  after first past = two.after Stage ℕ step who_v shows first past

  -- leaves that are a thread's have the same peaks
  abbrev pub SamePeaks : ℕ → Held → Held → Type 0
  SamePeaks i m n = (y : ℕ) → m.hold y ≡ i → Serves s sound holds P sections quiet_of y → (l k : Leaf) → slice_get m.world.leaves y ≡ Some l
      → slice_get n.world.leaves y ≡ Some k → l.peaks ≡ k.peaks

  abbrev pub Same : ℕ → Stage → Stage → Type 0
  Same i g k = IsSameThread i (view g.m) (view k.m) × SamePeaks i g.m k.m

  -- a step for another thread leaves them
  peaks_off : (g : Stage) (k x : ℕ) (is : who (view g.m) x ≡ Some k) (off : holds x ≡ false) (y : ℕ) → Serves s sound holds P sections quiet_of y
      → g.m.hold y ≢ k → (l b : Leaf) → slice_get g.m.world.leaves y ≡ Some l → slice_get (next_stage g k x is).m.world.leaves y ≡ Some b
      → b.peaks ≡ l.peaks
  peaks_off g k x is off y serves ne l b at now =
      let t = off_right s sound holds P sections quiet_of g.m g.good k x is off (g.m.hold y) ne g.m (thread_itself (g.m.hold y) (view g.m)) in
      let sums = slots_same s sound holds P sections quiet_of (g.m.hold y) y g.m (next_stage g k x is).m l b at now t refl in
      raises s sound holds P sections quiet_of g.m g.good k x is y serves l b at now
      ∙ (sym (most_same classes l.peaks l.slots b.slots (λ c. sym (sums c))) ∙ full s sound holds P sections quiet_of g.m g.good y l at)

  same_left : (i : ℕ) (a b : Stage) (k x : ℕ) (is : who (view a.m) x ≡ Some k) → holds x ≡ false → i ≢ k → Same i a b → Same i (next_stage a k x is) b
  same_left i a b k x is off ne t = (
    off_left s sound holds P sections quiet_of a.m a.good k x is off i ne b.m t.0,
    λ y own serves l c at at_b.
        let own_a : a.m.hold y ≡ i = (λ j. off_hold s sound holds P sections quiet_of a.m a.good k x is off j y) ∙ own in
        let l0 = leaf_before s sound holds P sections quiet_of a.m a.good k x is y l at in
        peaks_off a k x is off y serves (λ e. ne (sym own_a ∙ e)) l0.0 l l0.1 at ∙ t.1 y own_a serves l0.0 c l0.1 at_b,
  )

  same_right : (i : ℕ) (a b : Stage) (k x : ℕ) (is : who (view b.m) x ≡ Some k) → holds x ≡ false → i ≢ k → Same i a b → Same i a (next_stage b k x is)
  same_right i a b k x is off ne t = (
    off_right s sound holds P sections quiet_of b.m b.good k x is off i ne a.m t.0,
    λ y own serves l c at at_b.
        let own_b : b.m.hold y ≡ i = equal_of _ _ (sym (t.0.owned y) ∙ (ap (λ n. n == i) own ∙ equal_self i)) in
        let c0 = leaf_before s sound holds P sections quiet_of b.m b.good k x is y c at_b in
        t.1 y own serves l c0.0 at c0.1 ∙ sym (peaks_off b k x is off y serves (λ e. ne (sym own_b ∙ e)) c0.0 c c0.1 at_b),
  )

  same_own : (a b : Stage) (k x : ℕ) (is : who (view a.m) x ≡ Some k) (is_n : who (view b.m) x ≡ Some k) → holds x ≡ false → Same k a b → Same x a b
      → Same k (next_stage a k x is) (next_stage b k x is_n)
  same_own a b k x is is_n off t tx = (
    both,
    λ y own serves l c at at_b.
        let own_a : a.m.hold y ≡ k = (λ j. off_hold s sound holds P sections quiet_of a.m a.good k x is off j y) ∙ own in
        let l0 = leaf_before s sound holds P sections quiet_of a.m a.good k x is y l at in
        let c0 = leaf_before s sound holds P sections quiet_of b.m b.good k x is_n y c at_b in
        let sums = slots_same s sound holds P sections quiet_of k y (next_stage a k x is).m (next_stage b k x is_n).m l c at at_b both own in
        raises s sound holds P sections quiet_of a.m a.good k x is y serves l0.0 l l0.1 at
        ∙ (most_same classes l0.0.peaks l.slots c.slots (λ n. sym (sums n))
        ∙ (ap (λ p. most classes p c.slots) (t.1 y own_a serves l0.0 c0.0 l0.1 c0.1)
        ∙ sym (raises s sound holds P sections quiet_of b.m b.good k x is_n y serves c0.0 c c0.1 at_b))),
  )
    where
      both : IsSameThread k (view (next_stage a k x is).m) (view (next_stage b k x is_n).m)
      both = thread_end s sound holds P sections quiet_of a.m b.m a.good b.good k x is is_n t.0 (λ own own_n ne. tx.0)

  -- STEPS

  leaf_below : (g : Stage) (y : ℕ) (l : Leaf) → slice_get g.m.world.leaves y ≡ Some l → y < length u.components
  leaf_below g y l at =
      let below = slice_get_within g.m.world.leaves y l at in
      let count = g.good.lasts.stands.whole.count in omega (arith, below, count)

  -- the thread of a step is a leaf's
  thread_below : (g : Stage) (k x : ℕ) → who (view g.m) x ≡ Some k → k < length u.components
  thread_below g k x is = by (who_is (view g.m) k x is)
    where
      root_below : (j : ℕ) → IsWaiting u (view g.m) g.good.held.placed j → (view g.m).root j ≡ k → k < length u.components
      root_below j a same =
          let l = leaf_of_stance (slice_get g.m.world.leaves ((view g.m).root j)) (stance Blocked None) (root_waits u (view g.m) g.good.held.placed j a) in
          subst (λ k. k < length u.components) same (leaf_below g ((view g.m).root j) l.0 l.1)

      by : IsWorking (view g.m) k x ⊎ IsServing (view g.m) k x → k < length u.components
      by (inr p) = root_below p.taken.0.session (requested u (view g.m) g.good.held.placed k x p).waiting p.root
      by (inl w) = of w.at.leaf.current refl
        where
          of : (current : Option Current) → w.at.leaf.current ≡ current → k < length u.components
          of None f =
              subst (λ k. k < length u.components) (sym (ap (thread_by (view g.m).root x) f) ∙ w.at.thread) (leaf_below g x w.at.leaf w.at.there)
          of (Some q) f =
              root_below q.session (handled u (view g.m) g.good.held.placed x w.at.leaf.phase q
              (ap stance_in w.at.there ∙ ap (λ o. Some (stance w.at.leaf.phase o)) f)).waiting
              (sym (ap (thread_by (view g.m).root x) f) ∙ w.at.thread)

  leaf_of : (g : Stage) (k x : ℕ) → who (view g.m) x ≡ Some k → (l : Leaf) × (slice_get g.m.world.leaves x ≡ Some l)
  leaf_of g k x is = elim (who_is (view g.m) k x is) [ inl w ↦ (w.at.leaf, w.at.there) | inr p ↦ (p.leaf, p.there) ]

  abbrev shown_to : Stage → ℕ → List ℕ → List ℕ
  shown_to first i a = two.shown Stage ℕ step who_v shows first i a

  -- a leaf takes as many steps as it takes for all threads
  abbrev IsCounted : Stage → ℕ → List ℕ → Type 0
  IsCounted first y a = slice_index (steps_of (after first a).m.world) y
      ≡ slice_index (steps_of first.m.world) y + sum_to (length u.components) (λ i. times_in y (shown_to first i a))

  steps_run : (first : Stage) (y : ℕ) (a : List ℕ) → IsCounted first y a
  steps_run first y [] = let none = sum_none (length u.components) in omega (arith, none)
  steps_run first y (x ∷ a) =
      by_step (λ w. slice_index (steps_of w.m.world) y ≡ slice_index (steps_of first.m.world) y + now) g x
      (λ k e. one (steps_run first y a) k e (split g x k e)) (none (steps_run first y a))
    where
      g : Stage
      g = after first a

      now : ℕ
      now = sum_to (length u.components) (λ i. times_in y (shown_to first i (x ∷ a)))

      none : IsCounted first y a → who_v g x ≡ None → slice_index (steps_of g.m.world) y ≡ slice_index (steps_of first.m.world) y + now
      none old e =
          let same : now ≡ sum_to (length u.components) (λ i. times_in y (shown_to first i a))
          = sum_same (length u.components) (λ i. times_in y (shown_to first i a)) (λ i. times_in y (shown_to first i (x ∷ a)))
          (λ i. ap (times_in y) (two.shown_else Stage ℕ step who_v shows first i a x (ap (is_for i) e))) in
          old ∙ ap (λ n. slice_index (steps_of first.m.world) y + n) (sym same)

      one : IsCounted first y a → (k : ℕ) (e : who_v g x ≡ Some k) (p : (v x ≡ true) × (who (view g.m) x ≡ Some k))
          → slice_index (steps_of (next_stage g k x p.1).m.world) y ≡ slice_index (steps_of first.m.world) y + now
      one old k e p =
          let l = leaf_of g k x p.1 in
          let there = slice_get_within g.m.world.leaves x l.0 l.1 in
          let count = length-map g.m.world.leaves (λ (l : Leaf). l.steps) in
          let at : slice_index (steps_of (next_stage g k x p.1).m.world) y ≡ slice_index (steps_of g.m.world) y + cond (x == y) 1 0
          = ap (λ l. slice_index l y) (steps_end s sound holds P sections quiet_of g.m g.good k x p.1)
          ∙ raised_one (steps_of g.m.world) x y (omega (arith, there, count)) in
          let more = sum_one (length u.components) k (cond (x == y) 1 0) (λ i. times_in y (shown_to first i a))
          (λ i. times_in y (shown_to first i (x ∷ a))) (thread_below g k x p.1)
          (λ i ne. ap (times_in y) (two.shown_else Stage ℕ step who_v shows first i a x (ap (is_for i) e ∙ not_it i ne))) own in
          omega (arith, at, more, old)
        where
          not_it : (i : ℕ) → i ≢ k → (k == i) ≡ false
          not_it i ne = elim (eqb_tells k i) [ inl q ↦ absurd (ne (sym q.1)) | inr q ↦ q.0 ]

          own : times_in y (shown_to first k (x ∷ a)) ≡ times_in y (shown_to first k a) + cond (x == y) 1 0
          own =
              let e0 = ap (times_in y) (two.shown_own Stage ℕ step who_v shows first k a x (ap (is_for k) e ∙ equal_self k)) in
              let e1 = times_more y (shown_to first k a) (x ∷ []) in omega (arith, e0, e1)

  is_else : (i k : ℕ) (o : Option ℕ) → is_for i o ≡ false → o ≡ Some k → i ≢ k
  is_else i k o f e q = true≢false (sym (equal_self i) ∙ (ap (λ n. n == i) q ∙ (sym (ap (is_for i) e) ∙ f)))

  -- the same step in two worlds
  both_step : (a b : Stage) (k x : ℕ) (is : who (view a.m) x ≡ Some k) (l y : ℕ) (is_l : who (view b.m) y ≡ Some l) → k ≡ l → x ≡ y → holds x ≡ false
      → Same k a b → Same x a b → Same k (next_stage a k x is) (next_stage b l y is_l)
  both_step a b k x is l y is_l kl xy off t tx =
      subst (λ l. (is_l : who (view b.m) y ≡ Some l) → Same k (next_stage a k x is) (next_stage b l y is_l)) kl
      (subst (λ y. (is_l : who (view b.m) y ≡ Some k) → Same k (next_stage a k x is) (next_stage b k y is_l)) xy
      (λ is_n. same_own a b k x is is_n off t tx)) is_l

  module _ (one other : Stage) (o : AreOne s sound holds P sections quiet_of one.m other.m) where
    abbrev pub Told : ℕ → Type 0
    Told i = one.m.hold i ≡ i

    abbrev pub Rests : ℕ → Type 0
    Rests i = v i ≡ true

    own : (i : ℕ) (a b : Stage) (x y : ℕ) → who_v a x ≡ Some i → who_v b y ≡ Some i → Same i a b → ((j : ℕ) → Rests j → Same j a b)
        → Same i (step a x) (step b y) × (shows a x ≡ shows b y)
    own i a b x y e f t rest = (
      by_step (λ w. Same i w (step b y)) a x
          (λ k p. by_step (λ w. Same i (next_stage a k x (split a x k p).1) w) b y (λ l q. of k p l q) (λ n. absurd (none_is i (who_v b y) n f)))
          (λ n. absurd (none_is i (who_v a x) n e)),
      ap (λ n. n ∷ []) leaf,
    )
      where
        leaf : x ≡ y
        leaf = (same_place u (view a.m) (view b.m) a.good.held.placed b.good.held.placed i t.0 x y (split a x i e).1 (split b y i f).1).leaf

        of : (k : ℕ) (p : who_v a x ≡ Some k) (l : ℕ) (q : who_v b y ≡ Some l)
            → Same i (next_stage a k x (split a x k p).1) (next_stage b l y (split b y l q).1)
        of k p l q =
            let k_i : k ≡ i = some_same (sym p ∙ e) in
            let l_i : l ≡ i = some_same (sym q ∙ f) in
            subst (λ n. Same n (next_stage a k x (split a x k p).1) (next_stage b l y (split b y l q).1)) k_i
            (both_step a b k x (split a x k p).1 l y (split b y l q).1 (k_i ∙ sym l_i) leaf (off_of x (split a x k p).0)
            (subst (λ n. Same n a b) (sym k_i) t) (rest x (split a x i e).0))

    pub are_two : two.AreTwo Stage ℕ step who_v shows one other Same Told Rests
    are_two = record {
      begins = λ i told. (o.same i told, λ y own serves l k at at_k. o.peaks y serves l k at at_k);
      left = λ i a b x told g t. by_step (λ w. Same i w (after other b)) (after one a) x
          (λ k e. same_left i (after one a) (after other b) k x (split (after one a) x k e).1 (off_of x (split (after one a) x k e).0)
          (is_else i k (who_v (after one a) x) g e) t) (λ n. t);
      right = λ i a b x told g t. by_step (λ w. Same i (after one a) w) (after other b) x
          (λ k e. same_right i (after one a) (after other b) k x (split (after other b) x k e).1 (off_of x (split (after other b) x k e).0)
          (is_else i k (who_v (after other b) x) g e) t) (λ n. t);
      own = λ i a b x y told e f t rest. own i (after one a) (after other b) x y e f t rest;
      told = λ i at. one.good.held.free i (off_of i at);
      rests_one = λ i a x at e. no_step (after one a) i x at (split (after one a) x i e).1;
      rests_other = λ i b x at e. no_step (after other b) i x at (split (after other b) x i e).1;
    }

    -- WHERE NONE CAN TAKE A TURN

    module _ (shared_of : (z : ℕ) → holds z ≡ false → is_shared u z ≡ true)
        (lower : (y z : ℕ) → holds y ≡ false → Uses u y z → is_shared u z ≡ true → holds z ≡ false)
        (used : (y z : ℕ) → v y ≡ true → Uses u y z → holds z ≡ false → v z ≡ true) where
      -- no such server works for a thread
      not_at : (g : Stage) → Still g → (i y : ℕ) → v y ≡ true → IsAt (view g.m) i y → ⊥
      not_at g still i y at a = by a.leaf.phase refl
        where
          active : is_active a.leaf.phase ≡ true
          active = sym (works_as a.leaf (g.good.held.calm.none y a.leaf a.there)) ∙ a.has_work

          q : (q : Current) × (a.leaf.current ≡ Some q)
          q = g.begun y at a.leaf a.there active

          d : (d : Component) × (slice_get u.components y ≡ Some d)
          d = placed s sound holds P sections quiet_of g.m g.good y a.leaf a.there

          stays : runs g.m.world y a.leaf a.leaf.phase ≡ false
          stays = (λ j. runs_as g.m.world y (sym d.1 j) (sym a.there j)) ∙ still y at

          fits : Fits a.leaf.phase a.leaf.current
          fits = g.good.held.placed.linked.fits y (stance a.leaf.phase a.leaf.current) (ap stance_in a.there)

          by : (p : Phase) → a.leaf.phase ≡ p → ⊥
          by Blocked e = a.goes e
          by Running e = true≢false (ap (runs g.m.world y a.leaf) (sym e) ∙ stays)
          by Handling e = true≢false (ap (runs g.m.world y a.leaf) (sym e) ∙ stays)
          by Serving e = true≢false (sym active ∙ ap is_active e)
          by Exited e = true≢false (sym active ∙ ap is_active e)
          by Pending e = subst (λ o. Fits Pending o) q.1 (subst (λ p. Fits p a.leaf.current) e fits)

      -- nor is one asked
      not_asked : (g : Stage) → Still g → (i y : ℕ) → v y ≡ true → asked_of g.m i y ≡ []
      not_asked g still i y at = elim (asks_or s sound holds P sections quiet_of g.m g.good g.opened i y) [
        | inl e ↦ e
        | inr p ↦ absurd (none_waits s sound holds P sections quiet_of g.m g.good g.opened shared_of lower (λ z. v z ≡ true) off_of g.begun used still
            p.0 p.1 (ap v p.2 ∙ at))
      ]

      asks : (g : Stage) (i y : ℕ) (p : IsServing (view g.m) i y) → asked_of g.m i y ≡ [] → ⊥
      asks g i y p e =
          let r = oldest_roots (view g.m).root g.m.world y g.m.world.requests p.taken p.found in
          let rest = roots_in (view g.m).root g.m.world y p.taken.1 in
          some_asks (view g.m).root g.m.world y i rest g.m.world.requests (r.0 ∙ ap (λ n. n ∷ rest) p.root) e

      -- so a thread that could go on in a world does not have the same in this one
      no_more : (g c : Stage) → Still g → (i y : ℕ) → who_v c y ≡ Some i → Same i g c → ⊥
      no_more g c still i y e t = by (who_is (view c.m) i y (split c y i e).1)
        where
          at : v y ≡ true
          at = (split c y i e).0

          by : IsWorking (view c.m) i y ⊎ IsServing (view c.m) i y → ⊥
          by (inl w) = not_at g still i y at (at_back (view g.m) (view c.m) i y t.0 w.at)
          by (inr p) = asks c i y p (sym (asked_same s sound holds P sections quiet_of g.m c.m g.good i y t.0) ∙ not_asked g still i y at)

      no_less : (g c : Stage) → Still g → (i y : ℕ) → who_v c y ≡ Some i → Same i c g → ⊥
      no_less g c still i y e t = by (who_is (view c.m) i y (split c y i e).1)
        where
          at : v y ≡ true
          at = (split c y i e).0

          by : IsWorking (view c.m) i y ⊎ IsServing (view c.m) i y → ⊥
          by (inl w) = not_at g still i y at (at_other (view c.m) (view g.m) i y t.0 w.at)
          by (inr p) = asks c i y p (asked_same s sound holds P sections quiet_of c.m g.m c.good i y t.0 ∙ not_asked g still i y at)

      -- once these servers can take no more turns each thread has the same, over the same turns
      pub still_same : (a b : List ℕ) → Still (after one a) → Still (after other b) → (i : ℕ) → Told i
          → Same i (after one a) (after other b)
          × (two.shown Stage ℕ step who_v shows one i a ≡ two.shown Stage ℕ step who_v shows other i b)
      still_same a b still_a still_b i told =
          two.settled_agree Stage ℕ step who_v shows one other Same Told Rests are_two i told a b
          (λ c y e t. no_more (after one a) (after other c) still_a i y e t) (λ c x e t. no_less (after other b) (after one c) still_b i x e t)

      -- HOLDERS AND ORDERS

      hold_run : (first : Stage) (a : List ℕ) → first.m.hold ≡ (after first a).m.hold
      hold_run first [] = refl
      hold_run first (x ∷ a) = by_step (λ w. first.m.hold ≡ w.m.hold) (after first a) x
          (λ k e. hold_run first a ∙ off_hold s sound holds P sections quiet_of (after first a).m (after first a).good k x (split (after first a) x k e).1
          (off_of x (split (after first a) x k e).0)) (λ n. hold_run first a)

      order_run : (first : Stage) (z : ℕ) → holds z ≡ true → (a : List ℕ) → roots_to first.m z ≡ roots_to (after first a).m z
      order_run first z can [] = refl
      order_run first z can (x ∷ a) = by_step (λ w. roots_to first.m z ≡ roots_to w.m z) (after first a) x
          (λ k e. order_run first z can a ∙ one_more (after first a) k x (split (after first a) x k e)) (λ n. order_run first z can a)
        where
          one_more : (g : Stage) (k x : ℕ) (p : (v x ≡ true) × (who (view g.m) x ≡ Some k)) → roots_to g.m z ≡ roots_to (next_stage g k x p.1).m z
          one_more g k x p =
              let off = off_of x p.0 in
              let none = never_asks s sound holds P sections quiet_of opens_of g.m g.good g.opened shared_of lower k x p.1 off (g.begun x p.0) z can in
              sym ((ordered s sound holds P sections quiet_of g.m g.good k x p.1).else z (λ e. true≢false (sym can ∙ (ap holds e ∙ off)))
              ∙ (ap (λ l. roots_to g.m z ++ l) none ∙ append-nil (roots_to g.m z)))

      pub back_run : (a b : List ℕ) (j : ℕ) → (after other b).m.hold j ≡ j → (after one a).m.hold j ≡ j
      back_run a b j e = sym (λ i. hold_run one a i j) ∙ o.back j ((λ i. hold_run other b i j) ∙ e)

      pub order_both : (a b : List ℕ) (z : ℕ) → holds z ≡ true → roots_to (after one a).m z ≡ roots_to (after other b).m z
      order_both a b z can = sym (order_run one z can a) ∙ (o.order z can ∙ order_run other z can b)

      -- so all threads have the same, with the same orders, steps and peaks
      told_run : (a : List ℕ) (i : ℕ) → (after one a).m.hold i ≡ i → Told i
      told_run a i own = (λ j. hold_run one a j i) ∙ own

      shown_none : (first : Stage) (i : ℕ) → first.m.hold i ≢ i → (a : List ℕ) → shown_to first i a ≡ []
      shown_none first i ne [] = refl
      shown_none first i ne (x ∷ a) =
          two.shown_else Stage ℕ step who_v shows first i a x (two.is_for_not i (who_v (after first a) x) (λ e. ne ((λ j. hold_run first a j i)
          ∙ alive s sound holds P sections quiet_of (after first a).m (after first a).good i x (split (after first a) x i e).1)))
          ∙ shown_none first i ne a

      module _ (a b : List ℕ) (still_a : Still (after one a)) (still_b : Still (after other b)) where
        shown_same : (i : ℕ) → shown_to one i a ≡ shown_to other i b
        shown_same i = elim (eqb_tells (one.m.hold i) i) [
          | inl q ↦ (still_same a b still_a still_b i q.1).1
          | inr q ↦ shown_none one i q.1 a ∙ sym (shown_none other i (λ e. q.1 (o.back i e)) b)
        ]

        steps_both : steps_of (after one a).m.world ≡ steps_of (after other b).m.world
        steps_both = lists_same (steps_of (after one a).m.world) (steps_of (after other b).m.world) counts (λ y.
            steps_run one y a
            ∙ ((λ j. slice_index (o.steps j) y + sum_to (length u.components) (λ i. times_in y (shown_same i j))) ∙ sym (steps_run other y b)))
          where
            counts : length (steps_of (after one a).m.world) ≡ length (steps_of (after other b).m.world)
            counts = length-map (after one a).m.world.leaves (λ (l : Leaf). l.steps)
                ∙ ((after one a).good.lasts.stands.whole.count ∙ (sym (after other b).good.lasts.stands.whole.count
                ∙ sym (length-map (after other b).m.world.leaves (λ (l : Leaf). l.steps))))

        peaks_both : (y : ℕ) → Serves s sound holds P sections quiet_of y → (l k : Leaf) → slice_get (after one a).m.world.leaves y ≡ Some l
            → slice_get (after other b).m.world.leaves y ≡ Some k → l.peaks ≡ k.peaks
        peaks_both y serves l k at at_k =
            let i = (after one a).m.hold y in
            (still_same a b still_a still_b i (told_run a i ((after one a).good.held.whole y))).0.1 y refl serves l k at at_k

        pub still_one : AreOne s sound holds P sections quiet_of (after one a).m (after other b).m
        still_one = record {
          same = λ j own. (still_same a b still_a still_b j (told_run a j own)).0.0;
          back = λ j own. back_run a b j own;
          steps = steps_both;
          peaks = peaks_both;
          order = λ z can. order_both a b z can;
        }
