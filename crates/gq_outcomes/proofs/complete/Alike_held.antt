-- Two worlds in which all threads have the same: a step of one thread in both leaves it so.
use Rattle.std.proofs.Common.{◌≡◌, ◌≢◌, ◌⊎◌, inl, inr, ℕ, suc, ◌==◌, ◌&&◌, ◌||◌, Bool, true, false, cond, ◌++◌, List, [], ◌∷◌, map, Option, Some, None, Ok}
use Rattle.std.proofs.Common.{refl, ap, sym, ◌∙◌, subst, arith}
use Rattle.std.specs.Prelude.{is_some, option_map, slice_get, slice_set, slice_index, sum_by}
use Rattle.std.proofs.lemmas.Bool.Decides.{eqb_tells}
use Rattle.std.proofs.lemmas.Option.{slice_get_within}
use Rattle.gq_tariff.specs.Prices.{classes}
use Rattle.gq_model.specs.declared.phase.Phase.TheVariants.{Serving}
use Rattle.gq_model.specs.declared.program.Instruction.{Instruction}
use Rattle.gq_model.specs.machine.Doing.{Event, Stepped}
use Rattle.gq_model.specs.machine.Scenario.{Component, Scenario, System, system}
use Rattle.gq_model.specs.machine.Step.{is_to, next}
use Rattle.gq_model.specs.machine.Sums.{slot_places}
use Rattle.gq_model.specs.machine.World.{Session, Request, Leaf, World, session_at, start}
use Rattle.gq_model.proofs.Small_facts.{some_same, equal_self, get_within}
use Rattle.gq_laws.specs.Shapes.{Each, IsWholeLeaf}
use Rattle.gq_laws.specs.Session_links.{IsAsked, links}
use Rattle.gq_laws.specs.Sound_scenarios.{IsSound}
use Rattle.gq_laws.proofs.Outside_step_untouched.{outlined}
use Rattle.gq_laws.proofs.verified_programs.Use_chains.{Uses}
use Rattle.gq_model.specs.machine.Rest.{can_run, runs, runs_as}
use Rattle.gq_laws.specs.Turn_effects.{steps_of}
use Rattle.gq_laws.specs.Renamed.{renamed_request, renamed_session, renamed_slot}
use Rattle.gq_laws.specs.internal.Uncounted.{uncounted}
use Rattle.gq_laws.proofs.step_shapes.Step_counting.{counts_steps}
use Rattle.gq_determined.specs.internal.Threads.{among, moved, slots_of, who, IsSameThread}
use Rattle.gq_determined.proofs.regions.Region_changes.{within_there, within_here}
use Rattle.gq_determined.proofs.rest_accounts.Peaks_same.{each_at, most, most_same, most_within, raised_most, renamed_places}
use Rattle.gq_determined.proofs.rest_accounts.Peaks_steps.{next_raises}
use Rattle.gq_determined.proofs.rest_accounts.Session_places.{own_only}
use Rattle.gq_determined.proofs.thread_positions.Turn_thread_position.{IsServing, IsWorking, ServesSame, lives_who, same_place, who_is}
use Rattle.gq_determined.proofs.thread_positions.First_request_given.{equal_of, moved_else, moved_here, working_serving}
use Rattle.gq_determined.proofs.thread_runs.Remaining_section_statements.{AreSections, Lefts}
use Rattle.gq_determined.proofs.thread_steps.Own_steps.{anew_else, anew_here}
use Rattle.gq_determined.proofs.thread_steps.Stateless_thread_agreement.{ReadSame}
use Rattle.gq_outcomes.proofs.complete.Held_worlds.{AreQuiet, Held, active_in, freed, serving_in, taken, turn, view}
use Rattle.gq_outcomes.proofs.complete.Held_steps.{else_left, else_right, goes_other, hold_either, other_new, own_leaf, own_thread}
use Rattle.gq_outcomes.proofs.complete.Held_steps.{never_hold, never_left, never_right}
use Rattle.gq_outcomes.proofs.complete.Good_worlds.{Good, c, event, good_next, goes, later, new, pays, placed, quiet, stepped, there_c, uses_new}
use Rattle.gq_outcomes.proofs.complete.Order_of_requests.{asked_of, roots_in, roots_to}
use Rattle.gq_outcomes.proofs.complete.Order_steps.{IsOrdered, ordered}
use Rattle.gq_determined.proofs.thread_steps.Signal_flags.{signals_at, since_none}
use Rattle.gq_laws.specs.Leaf_phases.{serves}
use Rattle.gq_outcomes.proofs.complete.Unsubmitted_signals.{goes_on}

module _ (s : Scenario) (sound : IsSound s) (holds : ℕ → Bool) (P : ℕ → Component → Bool → Instruction → Type 0)
    (sections : AreSections P (uncounted (system s))) (quiet_of : (w : World) → Lefts P (uncounted (system s)) w → AreQuiet holds w) where
  abbrev u : System
  u = uncounted (system s)

  abbrev pub IsGood : Held → Type 0
  IsGood m = Good s sound holds P sections quiet_of m

  -- after a step of the x-th leaf for the thread i
  abbrev pub end : (m : Held) (h : IsGood m) (i x : ℕ) → who (view m) x ≡ Some i → Held
  end m h i x is = later s sound holds P sections quiet_of m h i x is

  abbrev pub good_end : (m : Held) (h : IsGood m) (i x : ℕ) (is : who (view m) x ≡ Some i) → IsGood (end m h i x is)
  good_end m h i x is = good_next s sound holds P sections quiet_of m h i x is

  abbrev pub shown : (m : Held) (h : IsGood m) (i x : ℕ) → who (view m) x ≡ Some i → Event
  shown m h i x is = event s sound holds P sections quiet_of m h i x is

  -- the leaf provides a service
  abbrev pub Serves : ℕ → Type 0
  Serves y = (d : Component) → slice_get u.components y ≡ Some d → serves d.node.provides d.node.signals ≡ true

  pub record AreOne (m n : Held) : Type 0 where
    pub same : (j : ℕ) → m.hold j ≡ j → IsSameThread j (view m) (view n)
    pub back : (j : ℕ) → n.hold j ≡ j → m.hold j ≡ j
    pub steps : steps_of m.world ≡ steps_of n.world
    pub peaks : (y : ℕ) → Serves y → (l k : Leaf) → slice_get m.world.leaves y ≡ Some l → slice_get n.world.leaves y ≡ Some k → l.peaks ≡ k.peaks
    pub order : (z : ℕ) → holds z ≡ true → roots_to m z ≡ roots_to n z

  -- ONE STEP

  module _ (m : Held) (h : IsGood m) (i x : ℕ) (is : who (view m) x ≡ Some i) where
    abbrev e0 : Held
    e0 = end m h i x is

    pub alive : m.hold i ≡ i
    alive = lives_who u (view m) h.held.placed i x is

    -- another leaf is its own just where it was
    pub own_back : (j : ℕ) → j ≢ x → e0.hold j ≡ j → m.hold j ≡ j
    own_back j ne = by (active_in (slice_get (new s sound holds P sections quiet_of m h i x is).leaves x)) (serving_in (slice_get m.world.leaves x) && holds x)
      where
        of : (b : Bool) → moved b x i m.hold j ≡ j → m.hold j ≡ j
        of false e = e
        of true e = elim (eqb_tells (m.hold j) x) [
          | inl q ↦
              let same : i ≡ j = sym (moved_here x i m.hold j q.1) ∙ e in
              absurd (ne (sym same ∙ (sym alive ∙ (ap m.hold same ∙ q.1))))
          | inr q ↦ sym (moved_else x i m.hold j q.1) ∙ e
        ]

        by : (a b : Bool) → freed a x (moved b x i m.hold) j ≡ j → m.hold j ≡ j
        by true b e = of b e
        by false b e = of b (sym (anew_else (moved b x i m.hold) x x j ne) ∙ e)

    pub own_kept : (j : ℕ) → j ≢ x → m.hold j ≡ j → e0.hold j ≡ j
    own_kept j ne own = by (active_in (slice_get (new s sound holds P sections quiet_of m h i x is).leaves x))
        (serving_in (slice_get m.world.leaves x) && holds x)
      where
        of : (b : Bool) → moved b x i m.hold j ≡ j
        of false = own
        of true = moved_else x i m.hold j (λ q. ne (sym own ∙ q)) ∙ own

        by : (a b : Bool) → freed a x (moved b x i m.hold) j ≡ j
        by true b = of b
        by false b = anew_else (moved b x i m.hold) x x j ne ∙ of b

    -- the leaf that takes the step is the thread's or its own
    pub own_x : (e0.hold x ≡ i) ⊎ (e0.hold x ≡ x)
    own_x =
        by (active_in (slice_get (new s sound holds P sections quiet_of m h i x is).leaves x))
        (hold_either u (pays s sound holds P sections quiet_of) holds m h.held (quiet s sound holds P sections quiet_of m h) i x is
        (c s sound holds P sections quiet_of m h i x is) (there_c s sound holds P sections quiet_of m h i x is)
        (new s sound holds P sections quiet_of m h i x is) (event s sound holds P sections quiet_of m h i x is)
        (stepped s sound holds P sections quiet_of m h i x is) (uses_new s sound holds P sections quiet_of m h i x is))
      where
        by : (a : Bool) → ((taken holds m x i).hold x ≡ i) ⊎ ((holds x ≡ false) × ((taken holds m x i).hold x ≡ x))
            → (freed a x (taken holds m x i).hold x ≡ i) ⊎ (freed a x (taken holds m x i).hold x ≡ x)
        by false o = inr (anew_here (taken holds m x i).hold x x)
        by true (inl e) = inl e
        by true (inr e) = inr e.1

    pub frame_left : (j : ℕ) → j ≢ i → j ≢ x → (o : Held) → IsSameThread j (view m) (view o) → IsSameThread j (view e0) (view o)
    frame_left =
        else_left u (pays s sound holds P sections quiet_of) holds m h.held (quiet s sound holds P sections quiet_of m h) i x is
        (c s sound holds P sections quiet_of m h i x is) (there_c s sound holds P sections quiet_of m h i x is)
        (new s sound holds P sections quiet_of m h i x is) (event s sound holds P sections quiet_of m h i x is)
        (stepped s sound holds P sections quiet_of m h i x is) (uses_new s sound holds P sections quiet_of m h i x is)

    pub frame_right : (j : ℕ) → j ≢ i → j ≢ x → (o : Held) → IsSameThread j (view o) (view m) → IsSameThread j (view o) (view e0)
    frame_right =
        else_right u (pays s sound holds P sections quiet_of) holds m h.held (quiet s sound holds P sections quiet_of m h) i x is
        (c s sound holds P sections quiet_of m h i x is) (there_c s sound holds P sections quiet_of m h i x is)
        (new s sound holds P sections quiet_of m h i x is) (event s sound holds P sections quiet_of m h i x is)
        (stepped s sound holds P sections quiet_of m h i x is) (uses_new s sound holds P sections quiet_of m h i x is)

    -- where the leaf is never held
    module _ (off : holds x ≡ false) where
      pub off_left : (j : ℕ) → j ≢ i → (o : Held) → IsSameThread j (view m) (view o) → IsSameThread j (view e0) (view o)
      off_left =
          never_left u (pays s sound holds P sections quiet_of) holds m h.held (quiet s sound holds P sections quiet_of m h) i x is
          (c s sound holds P sections quiet_of m h i x is) (there_c s sound holds P sections quiet_of m h i x is)
          (new s sound holds P sections quiet_of m h i x is) (event s sound holds P sections quiet_of m h i x is)
          (stepped s sound holds P sections quiet_of m h i x is) (uses_new s sound holds P sections quiet_of m h i x is) off

      pub off_right : (j : ℕ) → j ≢ i → (o : Held) → IsSameThread j (view o) (view m) → IsSameThread j (view o) (view e0)
      off_right =
          never_right u (pays s sound holds P sections quiet_of) holds m h.held (quiet s sound holds P sections quiet_of m h) i x is
          (c s sound holds P sections quiet_of m h i x is) (there_c s sound holds P sections quiet_of m h i x is)
          (new s sound holds P sections quiet_of m h i x is) (event s sound holds P sections quiet_of m h i x is)
          (stepped s sound holds P sections quiet_of m h i x is) (uses_new s sound holds P sections quiet_of m h i x is) off

      pub off_hold : m.hold ≡ e0.hold
      off_hold =
          never_hold u (pays s sound holds P sections quiet_of) holds m h.held (quiet s sound holds P sections quiet_of m h) i x is
          (c s sound holds P sections quiet_of m h i x is) (there_c s sound holds P sections quiet_of m h i x is)
          (new s sound holds P sections quiet_of m h i x is) (event s sound holds P sections quiet_of m h i x is)
          (stepped s sound holds P sections quiet_of m h i x is) (uses_new s sound holds P sections quiet_of m h i x is) off

    pub runs_who : can_run u m.world x ≡ true
    runs_who = by (who_is (view m) i x is)
      where
        of : (l : Leaf) → slice_get m.world.leaves x ≡ Some l → runs m.world x l l.phase ≡ true → can_run u m.world x ≡ true
        of l at e = (λ j. runs_as m.world x (there_c s sound holds P sections quiet_of m h i x is j) (at j)) ∙ e

        by : IsWorking (view m) i x ⊎ IsServing (view m) i x → can_run u m.world x ≡ true
        by (inl w) = of w.at.leaf w.at.there (elim (goes_on (view m) h.held.calm i x w) [
          | inl r ↦ ap (runs m.world x w.at.leaf) r
          | inr r ↦ ap (runs m.world x w.at.leaf) r
        ])
        by (inr p) = of p.leaf p.there (ap (runs m.world x p.leaf) p.serves ∙ λ j. is_some (p.idle j) || is_some (p.found j))

    pub steps_end : steps_of e0.world ≡ slice_set (steps_of m.world) x (suc (slice_index (steps_of m.world) x))
    steps_end =
        counts_steps u m.world x (new s sound holds P sections quiet_of m h i x is) (event s sound holds P sections quiet_of m h i x is) runs_who
        (stepped s sound holds P sections quiet_of m h i x is)

  -- PEAKS

  pub full : (m : Held) (h : IsGood m) (y : ℕ) (l : Leaf) → slice_get m.world.leaves y ≡ Some l → most classes l.peaks l.slots ≡ l.peaks
  full m h y l e = most_within classes l.peaks l.slots (each_at IsWholeLeaf m.world.leaves h.lasts.stands.whole.leaves y l e).2 (h.within.each y l e)

  -- after a step the peaks are the old ones, raised to what is in use
  pub raises : (m : Held) (h : IsGood m) (i x : ℕ) (is : who (view m) x ≡ Some i) (y : ℕ) → Serves y → (l k : Leaf) → slice_get m.world.leaves y ≡ Some l
      → slice_get (end m h i x is).world.leaves y ≡ Some k → k.peaks ≡ most classes l.peaks k.slots
  raises m h i x is y serves l k there now =
      let g = good_end m h i x is in
      let r = (next_raises (system s) m.world x y l there serves (λ d leaf e f. (h.lasts.stands.left x d leaf e f).todo)).holds
      (new s sound holds P sections quiet_of m h i x is) (event s sound holds P sections quiet_of m h i x is)
      (goes s sound holds P sections quiet_of m h x).2 in
      let d = placed s sound holds P sections quiet_of (end m h i x is) g y k now in
      elim (r.raises k now) [
        | inl e ↦ sym (full (end m h i x is) g y k now) ∙ ap (λ p. most classes p k.slots) e
        | inr e ↦ e ∙ raised_most (end m h i x is).world y k (own_only s (end m h i x is).world g.lasts.stands y d.0 d.1 k now) classes l.peaks
      ]

  -- the slots of a leaf have as much in use where its thread has the same
  pub slots_same : (j y : ℕ) (m n : Held) (l k : Leaf) → slice_get m.world.leaves y ≡ Some l → slice_get n.world.leaves y ≡ Some k
      → IsSameThread j (view m) (view n) → m.hold y ≡ j → (c : ℕ) → sum_by (slot_places c) k.slots ≡ sum_by (slot_places c) l.slots
  slots_same j y m n l k e f t own c =
      let slots : k.slots ≡ map (renamed_slot t.f) l.slots
      = some_same (sym (ap (option_map slots_of) f) ∙ (t.region.slots y own ∙ ap (option_map (λ (leaf : Leaf). map (renamed_slot t.f) (slots_of leaf))) e)) in
      ap (sum_by (slot_places c)) slots ∙ renamed_places t.f c l.slots

  pub leaf_before : (m : Held) (h : IsGood m) (i x : ℕ) (is : who (view m) x ≡ Some i) (y : ℕ) (k : Leaf) → slice_get (end m h i x is).world.leaves y ≡ Some k
      → (l : Leaf) × (slice_get m.world.leaves y ≡ Some l)
  leaf_before m h i x is y k now = by (slice_get m.world.leaves y) refl
    where
      by : (o : Option Leaf) → slice_get m.world.leaves y ≡ o → (l : Leaf) × (slice_get m.world.leaves y ≡ Some l)
      by (Some l) e = (l, e)
      by None e =
          let a = placed s sound holds P sections quiet_of (end m h i x is) (good_end m h i x is) y k now in
          let below = slice_get_within u.components y a.0 a.1 in
          let count = h.lasts.stands.whole.count in
          let l = get_within m.world.leaves y (omega (arith, below, count)) in (l.0, l.1)

  -- THE SAME STEP

  module _ (m n : Held) (h : IsGood m) (g : IsGood n) (i x : ℕ) (is : who (view m) x ≡ Some i) (is_n : who (view n) x ≡ Some i)
      (t : IsSameThread i (view m) (view n)) (tx : m.hold x ≡ x → n.hold x ≡ x → x ≢ i → IsSameThread x (view m) (view n)) where
    abbrev q_m : AreQuiet holds m.world
    q_m = quiet s sound holds P sections quiet_of m h

    abbrev q_n : AreQuiet holds n.world
    q_n = quiet s sound holds P sections quiet_of n g

    reads : ReadSame m.world n.world
    reads = record {
      same = λ y a b j rest at at_b e. inr (h.unset.each y a at ∙ sym (g.unset.each y b at_b));
      served = λ y a b at at_b p q. (
        since_none (signals_at (start u) y) b.signals (g.since.at y b at_b) q.1
            ∙ sym (since_none (signals_at (start u) y) a.signals (h.since.at y a at) p.1),
        reacts_not n g y b at_b q.0 ∙ sym (reacts_not m h y a at p.0),
      );
    }
      where
        reacts_not : (k : Held) (f : IsGood k) (y : ℕ) (l : Leaf) → slice_get k.world.leaves y ≡ Some l → l.phase ≡ Serving → l.reacting ≡ None
        reacts_not k f y l at serves =
            let c = placed s sound holds P sections quiet_of k f y l at in ((f.left.at y l at c.0 c.1).2 serves).1

    abbrev w_n : World
    w_n =
        other_new u (pays s sound holds P sections quiet_of) holds m n h.held g.held q_m q_n i x is is_n t tx reads
        (c s sound holds P sections quiet_of m h i x is) (there_c s sound holds P sections quiet_of m h i x is)
        (new s sound holds P sections quiet_of m h i x is) (event s sound holds P sections quiet_of m h i x is)
        (stepped s sound holds P sections quiet_of m h i x is) (uses_new s sound holds P sections quiet_of m h i x is)

    goes_n : next u n.world x ≡ Ok (w_n, event s sound holds P sections quiet_of m h i x is)
    goes_n =
        goes_other u (pays s sound holds P sections quiet_of) holds m n h.held g.held q_m q_n i x is is_n t tx reads
        (c s sound holds P sections quiet_of m h i x is) (there_c s sound holds P sections quiet_of m h i x is)
        (new s sound holds P sections quiet_of m h i x is) (event s sound holds P sections quiet_of m h i x is)
        (stepped s sound holds P sections quiet_of m h i x is) (uses_new s sound holds P sections quiet_of m h i x is)

    ok_same : {a b : World × Event} → ◌≡◌ {A = Stepped} (Ok a) (Ok b) → a ≡ b
    ok_same e = cc

    same_new : (w_n, event s sound holds P sections quiet_of m h i x is) ≡ (goes s sound holds P sections quiet_of n g x).0
    same_new = ok_same (sym goes_n ∙ (goes s sound holds P sections quiet_of n g x).1)

    pub shows_same : shown m h i x is ≡ shown n g i x is_n
    shows_same = ap (λ (p : World × Event). p.1) same_new

    world_same : w_n ≡ new s sound holds P sections quiet_of n g i x is_n
    world_same = ap (λ (p : World × Event). p.0) same_new

    uses_n : (k : ℕ) (a : Session) → session_at w_n k ≡ Some a → Uses u a.client a.server
    uses_n = subst (λ w. (k : ℕ) (a : Session) → session_at w k ≡ Some a → Uses u a.client a.server) (sym world_same)
        (uses_new s sound holds P sections quiet_of n g i x is_n)

    pub thread_end : IsSameThread i (view (end m h i x is)) (view (end n g i x is_n))
    thread_end = subst (λ w. IsSameThread i (view (end m h i x is)) (view (turn holds n x i w))) world_same
        (own_thread u (pays s sound holds P sections quiet_of) holds m n h.held g.held q_m q_n i x is is_n t tx reads
        (c s sound holds P sections quiet_of m h i x is) (there_c s sound holds P sections quiet_of m h i x is)
        (new s sound holds P sections quiet_of m h i x is) (event s sound holds P sections quiet_of m h i x is)
        (stepped s sound holds P sections quiet_of m h i x is) (uses_new s sound holds P sections quiet_of m h i x is) uses_n)

    pub leaf_end : x ≢ i → (end m h i x is).hold x ≡ x → IsSameThread x (view (end m h i x is)) (view (end n g i x is_n))
    leaf_end ne own = subst (λ w. IsSameThread x (view (end m h i x is)) (view (turn holds n x i w))) world_same
        (own_leaf u (pays s sound holds P sections quiet_of) holds m n h.held g.held q_m q_n i x is is_n t tx reads
        (c s sound holds P sections quiet_of m h i x is) (there_c s sound holds P sections quiet_of m h i x is)
        (new s sound holds P sections quiet_of m h i x is) (event s sound holds P sections quiet_of m h i x is)
        (stepped s sound holds P sections quiet_of m h i x is) (uses_new s sound holds P sections quiet_of m h i x is) uses_n ne own)

  -- WHAT IS ASKED

  each_among : (Q : Request → Type 0) (root : ℕ → ℕ) (i : ℕ) (rs : List Request) → Each Q rs → Each (λ r. Q r × (root r.session ≡ i)) (among root i rs)
  each_among Q root i [] each = tt
  each_among Q root i (r ∷ rs) each = by (root r.session == i) refl (each_among Q root i rs each.1)
    where
      by : (b : Bool) → (root r.session == i) ≡ b → Each (λ r. Q r × (root r.session ≡ i)) (among root i rs)
          → Each (λ r. Q r × (root r.session ≡ i)) (cond b (r ∷ among root i rs) (among root i rs))
      by true e h = ((each.0, equal_of (root r.session) i e), h)
      by false e h = h

  pub asked_same : (m n : Held) (h : IsGood m) (i z : ℕ) → IsSameThread i (view m) (view n) → asked_of m i z ≡ asked_of n i z
  asked_same m n h i z t =
      by (among (view m).root i m.world.requests) (each_among (λ r. (a : Session) × (session_at m.world r.session ≡ Some a)) (view m).root i m.world.requests
      (live m.world.requests h.held.placed.linked.asked))
      ∙ ap (roots_in (view n).root n.world z) (sym t.region.requests)
    where
      live : (rs : List Request) → Each (IsAsked (links m.world)) rs → Each (λ r. (a : Session) × (session_at m.world r.session ≡ Some a)) rs
      live [] each = tt
      live (r ∷ rs) each = (let o = outlined (session_at m.world r.session) each.0.0 each.0.1 in (o.0, o.1), live rs each.1)

      by : (rs : List Request) → Each (λ r. ((a : Session) × (session_at m.world r.session ≡ Some a)) × ((view m).root r.session ≡ i)) rs
          → roots_in (view m).root m.world z rs ≡ roots_in (view n).root n.world z (map (renamed_request t.f) rs)
      by [] each = refl
      by (r ∷ rs) each =
          let o = within_there (view n).root i n.world.sessions (t.f r.session) (renamed_session t.f each.0.0.0)
          (t.region.sessions.there r.session each.0.0.0 (within_here (view m).root i m.world.sessions r.session each.0.1 ∙ each.0.0.1)) in
          let to : is_to z (session_at m.world r.session) ≡ is_to z (session_at n.world (t.f r.session))
          = ap (is_to z) each.0.0.1 ∙ sym (ap (is_to z) o.1) in
          let root : (view m).root r.session ≡ (view n).root (t.f r.session) = each.0.1 ∙ sym o.0 in
          λ e. cond (to e) (root e ∷ by rs each.1 e) (by rs each.1 e)

  -- A STEP OF ONE THREAD IN BOTH

  module _ (m n : Held) (h : IsGood m) (g : IsGood n) (o : AreOne m n) (i x : ℕ) (is : who (view m) x ≡ Some i) (is_n : who (view n) x ≡ Some i) where
    t0 : IsSameThread i (view m) (view n)
    t0 = o.same i (alive m h i x is)

    tx0 : m.hold x ≡ x → n.hold x ≡ x → x ≢ i → IsSameThread x (view m) (view n)
    tx0 own own_n ne = o.same x own

    ti : IsSameThread i (view (end m h i x is)) (view (end n g i x is_n))
    ti = thread_end m n h g i x is is_n t0 tx0

    pub both_show : shown m h i x is ≡ shown n g i x is_n
    both_show = shows_same m n h g i x is is_n t0 tx0

    same_end : (j : ℕ) → (end m h i x is).hold j ≡ j → IsSameThread j (view (end m h i x is)) (view (end n g i x is_n))
    same_end j own = elim (eqb_tells j i) [
      | inl q ↦ subst (λ j. IsSameThread j (view (end m h i x is)) (view (end n g i x is_n))) (sym q.1) ti
      | inr q ↦ elim (eqb_tells j x) [
        | inl p ↦ subst (λ j. IsSameThread j (view (end m h i x is)) (view (end n g i x is_n))) (sym p.1)
            (leaf_end m n h g i x is is_n t0 tx0 (λ e. q.1 (p.1 ∙ e)) (ap (end m h i x is).hold (sym p.1) ∙ (own ∙ p.1)))
        | inr p ↦
            frame_left m h i x is j q.1 p.1 (end n g i x is_n) (frame_right n g i x is_n j q.1 p.1 m (o.same j (own_back m h i x is j p.1 own)))
      ]
    ]

    back_end : (j : ℕ) → (end n g i x is_n).hold j ≡ j → (end m h i x is).hold j ≡ j
    back_end j own = elim (eqb_tells j x) [
      | inr p ↦ own_kept m h i x is j p.1 (o.back j (own_back n g i x is_n j p.1 own))
      | inl p ↦ elim (own_x m h i x is) [
        | inr e ↦ ap (end m h i x is).hold p.1 ∙ (e ∙ sym p.1)
        | inl e ↦
            let n_is : (end n g i x is_n).hold x ≡ i = equal_of _ _ (sym (ti.owned x) ∙ (ap (λ a. a == i) e ∙ equal_self i)) in
            let same : x ≡ i = sym (ap (end n g i x is_n).hold (sym p.1) ∙ (own ∙ p.1)) ∙ n_is in
            ap (end m h i x is).hold p.1 ∙ (e ∙ (sym same ∙ sym p.1))
      ]
    ]

    peaks_end : (y : ℕ) → Serves y → (l k : Leaf) → slice_get (end m h i x is).world.leaves y ≡ Some l → slice_get (end n g i x is_n).world.leaves y ≡ Some k
        → l.peaks ≡ k.peaks
    peaks_end y serves l k at at_n =
        let l0 = leaf_before m h i x is y l at in
        let k0 = leaf_before n g i x is_n y k at_n in
        let j = (end m h i x is).hold y in
        let t = same_end j ((good_end m h i x is).held.whole y) in
        raises m h i x is y serves l0.0 l l0.1 at
        ∙ (most_same classes l0.0.peaks l.slots k.slots (λ c. sym (slots_same j y (end m h i x is) (end n g i x is_n) l k at at_n t refl c))
        ∙ (ap (λ p. most classes p k.slots) (o.peaks y serves l0.0 k0.0 l0.1 k0.1) ∙ sym (raises n g i x is_n y serves k0.0 k k0.1 at_n)))

    om : IsOrdered s sound holds P sections quiet_of m h i x is
    om = ordered s sound holds P sections quiet_of m h i x is

    on : IsOrdered s sound holds P sections quiet_of n g i x is_n
    on = ordered s sound holds P sections quiet_of n g i x is_n

    asked_z : (z : ℕ) → asked_of (end m h i x is) i z ≡ asked_of (end n g i x is_n) i z
    asked_z z = asked_same (end m h i x is) (end n g i x is_n) (good_end m h i x is) i z ti

    order_end : (z : ℕ) → holds z ≡ true → roots_to (end m h i x is) z ≡ roots_to (end n g i x is_n) z
    order_end z can = elim (eqb_tells z x) [
      | inr q ↦ om.else z q.1 ∙ ((λ e. o.order z can e ++ asked_z z e) ∙ sym (on.else z q.1))
      | inl q ↦ by (same_place u (view m) (view n) h.held.placed g.held.placed i t0 x x is is_n).how q.1
    ]
      where
        tail : {a b : List ℕ} → i ∷ a ≡ i ∷ b → a ≡ b
        tail e = cc

        busy : (w : IsWorking (view m) i x) → (l : Leaf) → slice_get m.world.leaves x ≡ Some l → l.phase ≡ Serving → ⊥
        busy w l at e = working_serving w.at.leaf.phase (goes_on (view m) h.held.calm i x w) (ap (λ (l : Leaf). l.phase) (some_same (sym w.at.there ∙ at)) ∙ e)

        busy_n : (w : IsWorking (view n) i x) → (l : Leaf) → slice_get n.world.leaves x ≡ Some l → l.phase ≡ Serving → ⊥
        busy_n w l at e = working_serving w.at.leaf.phase (goes_on (view n) g.held.calm i x w)
            (ap (λ (l : Leaf). l.phase) (some_same (sym w.at.there ∙ at)) ∙ e)

        here : (IsWorking (view m) i x × IsWorking (view n) i x) ⊎ ServesSame u (view m) (view n) h.held.placed g.held.placed i t0 x → holds x ≡ true
            → roots_to (end m h i x is) x ≡ roots_to (end n g i x is_n) x
        here (inl w) can = om.works_on (busy w.0) x ∙ ((λ e. o.order x can e ++ asked_z x e) ∙ sym (on.works_on (busy_n w.1) x))
        here (inr p) can =
            tail (sym (om.takes p.first.leaf p.first.there p.first.serves)
            ∙ ((λ e. o.order x can e ++ asked_z x e) ∙ on.takes p.other.leaf p.other.there p.other.serves))

        by : (IsWorking (view m) i x × IsWorking (view n) i x) ⊎ ServesSame u (view m) (view n) h.held.placed g.held.placed i t0 x → z ≡ x
            → roots_to (end m h i x is) z ≡ roots_to (end n g i x is_n) z
        by how e =
            ap (roots_to (end m h i x is)) e ∙ (here how (ap holds (sym e) ∙ can) ∙ sym (ap (roots_to (end n g i x is_n)) e))

    pub one_end : AreOne (end m h i x is) (end n g i x is_n)
    one_end = record {
      same = same_end;
      back = back_end;
      steps = steps_end m h i x is ∙ ((λ e. slice_set (o.steps e) x (suc (slice_index (o.steps e) x))) ∙ sym (steps_end n g i x is_n));
      peaks = peaks_end;
      order = order_end;
    }
