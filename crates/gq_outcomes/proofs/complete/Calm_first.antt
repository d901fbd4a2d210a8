-- A turn that asks no choice may be taken first, and worlds in which all threads have the same end the same: both by induction on how many turns are left.
use Rattle.std.proofs.Common.{◌≡◌, ◌≢◌, ◌<◌, ◌≤◌, ◌⊎◌, inl, inr, ℕ, zero, suc, ◌==◌, ◌&&◌, Bool, true, false, List, [], ◌∷◌, length, Option, Some, None}
use Rattle.std.proofs.Common.{refl, ap, sym, ◌∙◌, subst, arith}
use Rattle.std.specs.Prelude.{slice_get}
use Rattle.std.proofs.lemmas.Bool.{true≢false}
use Rattle.std.proofs.lemmas.Bool.Decides.{eqb_tells}
use Rattle.gq_model.specs.declared.program.Instruction.{Instruction}
use Rattle.gq_model.specs.machine.Doing.{Event}
use Rattle.gq_model.specs.machine.Scenario.{Component, Scenario, System, system}
use Rattle.gq_model.specs.machine.World.{Current, Leaf, World}
use Rattle.gq_model.proofs.Small_facts.{equal_self, none_some}
use Rattle.gq_laws.specs.Session_links.{links, stance, stance_in}
use Rattle.gq_laws.specs.Sound_scenarios.{IsSound}
use Rattle.gq_model.specs.machine.Rest.{can_run}
use Rattle.gq_laws.specs.internal.Uncounted.{uncounted}
use Rattle.gq_laws.proofs.session_links.Asked_request_changes.{same_current}
use Rattle.gq_laws.proofs.verified_programs.Use_chains.{Uses}
use Rattle.gq_races.specs.Races.{is_shared}
use Rattle.gq_determined.specs.internal.Threads.{has_work, thread_by, who, works, works_for}
use Rattle.gq_determined.proofs.thread_positions.First_request_given.{equal_of}
use Rattle.gq_determined.proofs.thread_positions.Single_thread_position.{handled, root_waits}
use Rattle.gq_determined.proofs.thread_positions.Turn_thread_position.{IsServing, IsWorking, who_is}
use Rattle.gq_determined.proofs.thread_runs.Raceless_first_statements.{OpensThere}
use Rattle.gq_determined.proofs.thread_runs.Remaining_section_statements.{AreSections, Lefts}
use Rattle.gq_outcomes.specs.Outcomes.{Explored, Point, after_turn, explored}
use Rattle.gq_outcomes.proofs.complete.Found_by_ends.{Ends, EndsWithin, rests_still}
use Rattle.gq_outcomes.proofs.complete.Held_worlds.{AreQuiet, Held, view}
use Rattle.gq_outcomes.proofs.complete.Order_of_requests.{asked_of}
use Rattle.gq_outcomes.proofs.complete.Alike_held.{AreOne, IsGood, end, good_end, runs_who, shown}
use Rattle.gq_outcomes.proofs.complete.Two_orders.{who_stays}
use Rattle.gq_outcomes.proofs.complete.Either_order.{asked_then, either, show_x, show_y}
use Rattle.gq_outcomes.proofs.complete.Rest_alike.{who_runs}
use Rattle.gq_outcomes.proofs.complete.Opened_sections.{AreBy, Begun, by_next}
use Rattle.gq_outcomes.proofs.complete.Lone_askers.{lone}
use Rattle.gq_outcomes.proofs.complete.Sections_below.{both}
use Rattle.gq_outcomes.proofs.complete.Common_turns.{Found, done_begun, done_off, done_used, is_done, some_turn}
use Rattle.gq_outcomes.proofs.complete.Turns_at_points.{IsLike, like_rests, like_turn, lines, said_both, said_more, turn_said, turn_world}
use Rattle.gq_outcomes.proofs.complete.Settled_sections.{EndsSame, TakesFirst, settles_both}
use Rattle.gq_model.specs.machine.Step.{first_signal}
use Rattle.gq_outcomes.proofs.complete.Unsubmitted_signals.{works_as}

module _ (s : Scenario) (sound : IsSound s) (holds : ℕ → Bool) (P : ℕ → Component → Bool → Instruction → Type 0)
    (sections : AreSections P (uncounted (system s))) (quiet_of : (w : World) → Lefts P (uncounted (system s)) w → AreQuiet holds w)
    (opens_of : (x : ℕ) (c : Component) (later : Bool) (i : Instruction) → P x c later i → OpensThere (uncounted (system s)) c later i) where
  abbrev u : System
  u = uncounted (system s)

  abbrev real : System
  real = system s

  abbrev e : Explored
  e = explored s

  abbrev G : Held → Type 0
  G m = IsGood s sound holds P sections quiet_of m

  abbrev One : Held → Held → Type 0
  One m n = AreOne s sound holds P sections quiet_of m n

  abbrev E : (m : Held) (h : G m) (i x : ℕ) → who (view m) x ≡ Some i → Held
  E m h i x is = end s sound holds P sections quiet_of m h i x is

  abbrev good : (m : Held) (h : G m) (i x : ℕ) (is : who (view m) x ≡ Some i) → G (E m h i x is)
  good m h i x is = good_end s sound holds P sections quiet_of m h i x is

  abbrev Like : Point → Point → Type 0
  Like p q = IsLike s sound holds P sections quiet_of opens_of p q

  -- a server that is not held and is done with `main` is so where all threads have the same
  begun_one : (m n : Held) (h : G m) (g : G n) → One m n → (z : ℕ) → holds z ≡ false → Begun m.world z → Begun n.world z
  begun_one m n h g o z off b l at act = by l.current refl
    where
      of : (k : Leaf) → slice_get m.world.leaves z ≡ Some k → works_for (view m).root z z (Some k) ≡ true → ⊥
      of k there f =
          let parts = both (has_work k.phase (first_signal k.signals)) (thread_by (view m).root z k.current == z) f in
          let q = b k there (sym (works_as k (h.held.calm.none z k there)) ∙ parts.0) in
          let root : (view m).root q.0.session ≡ z
          = equal_of ((view m).root q.0.session) z (sym (ap (λ o. thread_by (view m).root z o == z) q.1) ∙ parts.1) in
          let stood : (links m.world).stances z ≡ Some (stance k.phase (Some q.0))
          = ap stance_in there ∙ ap (λ o. Some (stance k.phase o)) q.1 in
          let wait = (handled u (view m) h.held.placed z k.phase q.0 stood).waiting in
          none_some (same_current (sym (ap (links m.world).stances (sym root) ∙ root_waits u (view m) h.held.placed q.0.session wait) ∙ stood))

      in_m : (o : Option Leaf) → slice_get m.world.leaves z ≡ o → works_for (view m).root z z o ≡ true → ⊥
      in_m None there f = true≢false (sym f)
      in_m (Some k) there f = of k there f

      by : (current : Option Current) → l.current ≡ current → (q : Current) × (l.current ≡ Some q)
      by (Some q) f = (q, f)
      by None f =
          let there : works (view n) z z ≡ true
          = ap (works_for (view n).root z z) at ∙ ((λ j. (works_as l (g.held.calm.none z l at) ∙ act) j && (thread_by (view n).root z (f j) == z))
          ∙ equal_self z) in
          absurd (in_m (slice_get m.world.leaves z) refl ((o.same z (h.held.free z off)).leaves z ∙ there))

  module _ (shared_of : (z : ℕ) → holds z ≡ false → is_shared (uncounted (system s)) z ≡ true)
      (lower : (y z : ℕ) → holds y ≡ false → Uses (uncounted (system s)) y z → is_shared (uncounted (system s)) z ≡ true → holds z ≡ false)
      (choice : ℕ → Bool) (choice_held : (z : ℕ) → choice z ≡ true → holds z ≡ true)
      (free_of : (z : ℕ) → holds z ≡ true → choice z ≡ false
      → (is_shared (uncounted (system s)) z ≡ false) ⊎ (slice_get (uncounted (system s)).components z ≡ None)) (t : List ℕ) where
    -- the turn asks no choice
    abbrev pub Calm : (m : Held) (h : G m) (i x : ℕ) → who (view m) x ≡ Some i → Type 0
    Calm m h i x is = (z : ℕ) → choice z ≡ true → asked_of (E m h i x is) i z ≡ []

    abbrev pub First : ℕ → Type 0
    First n = TakesFirst s sound holds P sections quiet_of opens_of shared_of lower choice choice_held t n

    abbrev pub Same : ℕ → Type 0
    Same n = EndsSame s sound holds P sections quiet_of opens_of shared_of lower choice choice_held t n

    -- TWO TURNS

    module _ (p : Point) (m : Held) (h : G m) (opened : AreBy u m.world) (at : m.world ≡ p.world) (i x : ℕ) (is : who (view m) x ≡ Some i)
        (calm : Calm m h i x is) (j y : ℕ) (is_y : who (view m) y ≡ Some j) (ne : x ≢ y) where
      y_x : y ≢ x
      y_x back = ne (sym back)

      abbrev mx : Held
      mx = E m h i x is

      abbrev hx : G mx
      hx = good m h i x is

      abbrev my : Held
      my = E m h j y is_y

      abbrev hy : G my
      hy = good m h j y is_y

      abbrev px : Point
      px = after_turn real x p

      abbrev py : Point
      py = after_turn real y p

      y_then : who (view mx) y ≡ Some j
      y_then = who_stays s sound holds P sections quiet_of m h i x j y is is_y ne

      x_then : who (view my) x ≡ Some i
      x_then = who_stays s sound holds P sections quiet_of m h j y i x is_y is y_x

      calm_then : Calm my hy i x x_then
      calm_then z so = sym (asked_then s sound holds P sections quiet_of m h i x is j y is_y ne y_then x_then z) ∙ calm z so

      can_x : can_run real py.world x ≡ true
      can_x = ap (λ w. can_run real w x) (sym (turn_world s sound holds P sections quiet_of opens_of p m h at j y is_y))
          ∙ runs_who s sound holds P sections quiet_of my hy i x x_then

      can_y : can_run real px.world y ≡ true
      can_y = ap (λ w. can_run real w y) (sym (turn_world s sound holds P sections quiet_of opens_of p m h at i x is))
          ∙ runs_who s sound holds P sections quiet_of mx hx j y y_then

      opened_x : AreBy u mx.world
      opened_x = by_next s sound holds P sections quiet_of opens_of m h i x is opened

      opened_y : AreBy u my.world
      opened_y = by_next s sound holds P sections quiet_of opens_of m h j y is_y opened

      free : (z : ℕ) → holds z ≡ true → (asked_of my j z ≡ []) ⊎ (asked_of mx i z ≡ [])
      free z can = of (choice z) refl
        where
          of : (b : Bool) → choice z ≡ b → (asked_of my j z ≡ []) ⊎ (asked_of mx i z ≡ [])
          of true so = inr (calm z so)
          of false so = lone s sound holds P sections quiet_of opens_of m h opened j y is_y i x is y_x z (free_of z can so)

      like : Like (after_turn real x py) (after_turn real y px)
      like = record {
        m = E my hy i x x_then;
        n = E mx hx j y y_then;
        at = turn_world s sound holds P sections quiet_of opens_of py my hy at_y i x x_then;
        at_n = turn_world s sound holds P sections quiet_of opens_of px mx hx at_x j y y_then;
        good_m = good my hy i x x_then;
        good_n = good mx hx j y y_then;
        opened_m = by_next s sound holds P sections quiet_of opens_of my hy i x x_then opened_y;
        opened_n = by_next s sound holds P sections quiet_of opens_of mx hx j y y_then opened_x;
        one = either s sound holds P sections quiet_of m h j y is_y i x is y_x x_then y_then free;
        said = turn_said s sound holds P sections quiet_of opens_of py my hy at_y i x x_then
            ∙ (ap (λ l. said_more l x (told x (shown s sound holds P sections quiet_of my hy i x x_then)))
            (turn_said s sound holds P sections quiet_of opens_of p m h at j y is_y)
            ∙ (said_both p.said y x (told y (shown s sound holds P sections quiet_of m h j y is_y))
            (told x (shown s sound holds P sections quiet_of my hy i x x_then)) y_x
            ∙ ((λ k. said_more (said_more p.said x
            (told x (sym (show_x s sound holds P sections quiet_of m h i x is j y is_y ne y_then x_then) k))) y
            (told y (sym (show_y s sound holds P sections quiet_of m h i x is j y is_y ne y_then x_then) k)))
            ∙ (ap (λ l. said_more l y (told y (shown s sound holds P sections quiet_of mx hx j y y_then)))
            (sym (turn_said s sound holds P sections quiet_of opens_of p m h at i x is))
            ∙ sym (turn_said s sound holds P sections quiet_of opens_of px mx hx at_x j y y_then)))));
      }
        where
          at_x : mx.world ≡ px.world
          at_x = turn_world s sound holds P sections quiet_of opens_of p m h at i x is

          at_y : my.world ≡ py.world
          at_y = turn_world s sound holds P sections quiet_of opens_of p m h at j y is_y

          told : ℕ → Event → List ℕ
          told = lines s sound holds P sections quiet_of opens_of

      -- the other turn is the first of those that are left
      pub after_other : (n : ℕ) → ((k : ℕ) → suc k ≡ n → First k) → ((k : ℕ) → suc k ≡ n → Same k) → EndsWithin s n t py → EndsWithin s n t px
      after_other zero first same r = absurd (none r.turns r.few r.ends)
        where
          none : (turns : List ℕ) → length turns ≤ 0 → Ends s py turns t → ⊥
          none [] few ends = true≢false (sym can_x ∙ rests_still real e.racy py.world ends.0 x)
          none (z ∷ turns) few ends = omega (arith, few)
      after_other (suc n) first same r =
          let f = first n refl py my hy opened_y (turn_world s sound holds P sections quiet_of opens_of p m h at j y is_y) i x x_then calm_then r in
          let g = same n refl (after_turn real x py) (after_turn real y px) like f in
          record { turns = y ∷ g.turns; few = (let few = g.few in omega (arith, few)); ends = (can_y, g.ends) }

    -- TAKEN FIRST

    first_next : (n : ℕ) → ((k : ℕ) → suc k ≡ n → First k) → ((k : ℕ) → suc k ≡ n → Same k) → First n
    first_next n first same p m h opened at i x is calm r = by r.turns r.few r.ends
      where
        by : (turns : List ℕ) → length turns ≤ suc n → Ends s p turns t → EndsWithin s n t (after_turn real x p)
        by [] few ends =
            absurd (true≢false (sym (runs_who s sound holds P sections quiet_of m h i x is)
            ∙ (ap (λ w. can_run real w x) at ∙ rests_still real e.racy p.world ends.0 x)))
        by (y ∷ xs) few ends = elim (eqb_tells x y) [
          | inl q ↦ record { turns = xs; few = omega (arith, few); ends = subst (λ y. Ends s (after_turn real y p) xs t) (sym q.1) ends.1 }
          | inr q ↦
              (let j = who_runs s sound holds P sections quiet_of m y (ap (λ w. can_run real w y) at ∙ ends.0) in
              after_other p m h opened at i x is calm j.0 y j.1 q.1 n first same (record { turns = xs; few = omega (arith, few); ends = ends.1 }))
        ]

    -- THE SAME ENDS

    module _ (Clear : ℕ → Type 0) (clear_off : (z : ℕ) → holds z ≡ false → Clear z)
        (clear_used : (y z : ℕ) → Clear y → Uses (uncounted (system s)) y z → Clear z) (clear_not : (z : ℕ) → Clear z → choice z ≡ false) where
      -- a turn that can be taken at both
      in_both : (n : ℕ) → ((k : ℕ) → k < n → Same k) → (p q : Point) (l : Like p q) (i x : ℕ) (is : who (view l.m) x ≡ Some i)
          → IsWorking (view l.m) i x ⊎ (holds x ≡ true) → (k : ℕ) → suc k ≡ n → EndsWithin s k t (after_turn real x p) → EndsWithin s n t q
      in_both n same p q l i x is how k less r =
          let next = like_turn s sound holds P sections quiet_of opens_of p q l i x is how in
          let f = same k (omega (arith, less)) (after_turn real x p) (after_turn real x q) next.1 r in
          record { turns = x ∷ f.turns; few = (let few = f.few in omega (arith, few, less)); ends = (next.0, f.ends) }

      settles : (n : ℕ) → ((k : ℕ) → k < n → First k) → ((k : ℕ) → k < n → Same k) → (p q : Point) (l : Like p q) → EndsWithin s n t p
          → (z : ℕ) → is_done s sound holds l.m.world z ≡ true → can_run u l.m.world z ≡ true → EndsWithin s n t q
      settles n first same p q l r z done can =
          settles_both s sound holds P sections quiet_of opens_of shared_of lower choice choice_held t (is_done s sound holds l.m.world)
          (done_off s sound holds l.m.world) (done_used s sound holds P sections quiet_of l.m l.good_m)
          (record { m = l.m; good = l.good_m; opened = l.opened_m; begun = λ z e. done_begun s sound holds l.m.world z e })
          (record {
            m = l.n;
            good = l.good_n;
            opened = l.opened_n;
            begun = λ z e. begun_one l.m l.n l.good_m l.good_n l.one z (done_off s sound holds l.m.world z e) (done_begun s sound holds l.m.world z e);
          }) l.one p q l.at l.at_n l.said z done can n first same r

      ends_next : (n : ℕ) → ((k : ℕ) → k < n → First k) → ((k : ℕ) → k < n → Same k) → Same n
      ends_next n first same p q l r = by r.turns r.few r.ends
        where
          found : (k : ℕ) → suc k ≡ n
              → Found s sound holds P sections quiet_of l.m l.good_m opens_of choice Clear clear_off clear_used clear_not → EndsWithin s n t q
          found k less (inr f) = settles n first same p q l r f.z f.done f.can
          found k less (inl f) =
              in_both n same p q l f.i f.x f.is f.how k less (first k (omega (arith, less)) p l.m l.good_m l.opened_m l.at f.i f.x f.is f.calm
              (subst (λ n. EndsWithin s n t p) (sym less) r))

          by : (turns : List ℕ) → length turns ≤ n → Ends s p turns t → EndsWithin s n t q
          by [] few ends = record { turns = []; few = omega arith; ends = like_rests s sound holds P sections quiet_of opens_of t p q l ends }
          by (y ∷ xs) few ends = of n refl
            where
              i : (i : ℕ) × (who (view l.m) y ≡ Some i)
              i = who_runs s sound holds P sections quiet_of l.m y (ap (λ w. can_run real w y) l.at ∙ ends.0)

              go : (k : ℕ) → suc k ≡ n → IsWorking (view l.m) i.0 y ⊎ (holds y ≡ true) → EndsWithin s n t q
              go k less how =
                  in_both n same p q l i.0 y i.1 how k less (record { turns = xs; few = omega (arith, few, less); ends = ends.1 })

              on : (k : ℕ) → suc k ≡ n → IsServing (view l.m) i.0 y → (b : Bool) → holds y ≡ b → EndsWithin s n t q
              on k less g true f = go k less (inr f)
              on k less g false f =
                  found k less (some_turn s sound holds P sections quiet_of l.m l.good_m opens_of choice Clear clear_off clear_used clear_not i.0 y f g)

              who_at : (k : ℕ) → suc k ≡ n → IsWorking (view l.m) i.0 y ⊎ IsServing (view l.m) i.0 y → EndsWithin s n t q
              who_at k less (inl w) = go k less (inl w)
              who_at k less (inr g) = on k less g (holds y) refl

              of : (a : ℕ) → n ≡ a → EndsWithin s n t q
              of zero f = absurd (omega (arith, few, f))
              of (suc k) f = who_at k (sym f) (who_is (view l.m) i.0 y i.1)

      both_next : (n : ℕ) → ((k : ℕ) → k < n → First k × Same k) → First n × Same n
      both_next n less = (
        first_next n (λ k e. (less k (omega (arith, e))).0) (λ k e. (less k (omega (arith, e))).1),
        ends_next n (λ k l. (less k l).0) (λ k l. (less k l).1),
      )

      all_less : (n k : ℕ) → k < n → First k × Same k
      all_less zero k l = absurd (omega (arith, l))
      all_less (suc n) k l = elim (eqb_tells k n) [
        | inl q ↦ subst (λ k. First k × Same k) (sym q.1) (both_next n (λ k l. all_less n k l))
        | inr q ↦ all_less n k (let ne = q.1 in omega (arith, l, ne))
      ]

      pub taken_first : (n : ℕ) → First n
      taken_first n = (both_next n (all_less n)).0
