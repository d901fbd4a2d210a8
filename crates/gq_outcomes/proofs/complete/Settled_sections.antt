-- Servers that are done with `main` take turns, from two worlds in which all threads have the same, until none of them can: as many turns in both, after which
-- all threads have the same.
use Rattle.std.proofs.Common.{◌≡◌, ◌<◌, ◌≤◌, ◌⊎◌, inl, inr, ℕ, zero, suc, ◌+◌, ◌&&◌, Bool, true, false, cond, List, [], ◌∷◌, length, Option, Some, None}
use Rattle.std.proofs.Common.{refl, ap, sym, ◌∙◌, subst, arith}
use Rattle.std.specs.Prelude.{is_some, slice_get, slice_index, slice_set, sum_by}
use Rattle.std.proofs.lemmas.Bool.{true≢false}
use Rattle.std.proofs.lemmas.List.{length-map}
use Rattle.std.proofs.lemmas.List.Sums.{sum_by-cons}
use Rattle.std.proofs.lemmas.Option.{slice_get_within}
use Rattle.gq_model.specs.declared.program.Instruction.{Instruction}
use Rattle.gq_model.specs.machine.Scenario.{Component, Scenario, System, system}
use Rattle.gq_model.specs.machine.World.{Leaf, World, start}
use Rattle.gq_model.specs.rules.Accept.{budgets, step_budgets}
use Rattle.gq_laws.specs.Progress.{budgeted, taken}
use Rattle.gq_laws.specs.Session_links.{stance, stance_in}
use Rattle.gq_laws.specs.Sound_scenarios.{IsSound}
use Rattle.gq_model.specs.machine.Rest.{can_run, runs_as}
use Rattle.gq_laws.specs.Turn_effects.{steps_of}
use Rattle.gq_laws.specs.internal.Uncounted.{uncounted}
use Rattle.gq_laws.proofs.progress.Work_ends.{work_ends}
use Rattle.gq_laws.proofs.verified_programs.Use_chains.{Uses}
use Rattle.gq_races.specs.Races.{any_below, is_shared}
use Rattle.gq_determined.specs.internal.Threads.{who}
use Rattle.gq_determined.proofs.thread_positions.Single_thread_position.{handled}
use Rattle.gq_determined.proofs.thread_positions.Turn_thread_position.{IsServing, IsWorking, taken_there, who_is}
use Rattle.gq_determined.proofs.thread_runs.Raceless_first_statements.{OpensThere}
use Rattle.gq_determined.proofs.thread_runs.Remaining_section_statements.{AreSections, Lefts}
use Rattle.gq_outcomes.specs.Outcomes.{Explored, Point, after_turn, explored}
use Rattle.gq_outcomes.proofs.complete.Found_by_ends.{Ends, EndsWithin, rests_still}
use Rattle.gq_outcomes.proofs.complete.Held_worlds.{AreQuiet, Held, view}
use Rattle.gq_outcomes.proofs.complete.Good_worlds.{first as first_held, good_first}
use Rattle.gq_outcomes.proofs.complete.Order_of_requests.{asked_of}
use Rattle.gq_outcomes.proofs.complete.Alike_held.{AreOne, IsGood, end, runs_who, steps_end}
use Rattle.gq_outcomes.proofs.complete.Sections_below.{both}
use Rattle.gq_outcomes.proofs.complete.Rest_alike.{steps_one, who_runs}
use Rattle.gq_outcomes.proofs.complete.Opened_sections.{AreBy}
use Rattle.gq_outcomes.proofs.complete.Unheld_asks.{never_asks}
use Rattle.gq_outcomes.proofs.complete.Section_turns.{Stage, Still, after, by_step, next_stage, none_is, split, step, still_one, who_v}
use Rattle.gq_outcomes.proofs.complete.Turns_at_points.{IsLike, said_server, turn_world}
use Rattle.gq_outcomes.proofs.complete.Used_servers.{below_found, below_there, used_server}
use Rattle.gq_outcomes.proofs.complete.Unsubmitted_signals.{active_at, goes_on}

-- where one number is raised by one, the sum is
total_raised : (l : List ℕ) (x : ℕ) → x < length l → sum_by (λ (n : ℕ). n) (slice_set l x (suc (slice_index l x))) ≡ suc (sum_by (λ (n : ℕ). n) l)
total_raised [] x below = absurd (omega (arith, below))
total_raised (a ∷ l) zero below =
    let one = sum_by-cons (λ (n : ℕ). n) (suc a) l in let old = sum_by-cons (λ (n : ℕ). n) a l in omega (arith, one, old)
total_raised (a ∷ l) (suc x) below =
    let more = total_raised l x (omega (arith, below)) in
    let one = sum_by-cons (λ (n : ℕ). n) a (slice_set l x (suc (slice_index l x))) in
    let old = sum_by-cons (λ (n : ℕ). n) a l in omega (arith, more, one, old)

-- a leaf that can take a turn is there
run_there : (w : World) (x : ℕ) (d : Option Component) (o : Option Leaf) → runs_as w x d o ≡ true → (l : Leaf) × (o ≡ Some l)
run_there w x (Some d) (Some l) e = (l, refl)
run_there w x (Some d) None e = absurd (true≢false (sym e))
run_there w x None o e = absurd (true≢false (sym e))

module _ (s : Scenario) (sound : IsSound s) (holds : ℕ → Bool) (P : ℕ → Component → Bool → Instruction → Type 0)
    (sections : AreSections P (uncounted (system s))) (quiet_of : (w : World) → Lefts P (uncounted (system s)) w → AreQuiet holds w)
    (opens_of : (x : ℕ) (c : Component) (later : Bool) (i : Instruction) → P x c later i → OpensThere (uncounted (system s)) c later i)
    (shared_of : (z : ℕ) → holds z ≡ false → is_shared (uncounted (system s)) z ≡ true)
    (lower : (y z : ℕ) → holds y ≡ false → Uses (uncounted (system s)) y z → is_shared (uncounted (system s)) z ≡ true → holds z ≡ false)
    (choice : ℕ → Bool) (choice_held : (z : ℕ) → choice z ≡ true → holds z ≡ true) (t : List ℕ) where
  abbrev u : System
  u = uncounted (system s)

  abbrev real : System
  real = system s

  abbrev e : Explored
  e = explored s

  -- a turn that asks no choice may be taken first, and then there is one turn less to take
  abbrev pub TakesFirst : ℕ → Type 0
  TakesFirst n = (p : Point) (m : Held) (h : IsGood s sound holds P sections quiet_of m) → AreBy u m.world → m.world ≡ p.world → (i x : ℕ)
      (is : who (view m) x ≡ Some i) → ((z : ℕ) → choice z ≡ true → asked_of (end s sound holds P sections quiet_of m h i x is) i z ≡ [])
      → EndsWithin s (suc n) t p → EndsWithin s n t (after_turn real x p)

  -- where all threads have the same, runs end the same
  abbrev pub EndsSame : ℕ → Type 0
  EndsSame n = (p q : Point) → IsLike s sound holds P sections quiet_of opens_of p q → EndsWithin s n t p → EndsWithin s n t q

  module _ (v : ℕ → Bool) (off_of : (z : ℕ) → v z ≡ true → holds z ≡ false) where
    abbrev S : Type 0
    S = Stage s sound holds P sections quiet_of opens_of v off_of

    abbrev later : S → List ℕ → S
    later first ds = after s sound holds P sections quiet_of opens_of v off_of first ds

    abbrev one_step : S → ℕ → S
    one_step g x = step s sound holds P sections quiet_of opens_of v off_of g x

    abbrev next : (g : S) (i x : ℕ) → who (view g.m) x ≡ Some i → S
    next g i x is = next_stage s sound holds P sections quiet_of opens_of v off_of g i x is

    abbrev for_v : S → ℕ → Option ℕ
    for_v g x = who_v s sound holds P sections quiet_of opens_of v off_of g x

    abbrev IsStill : S → Type 0
    IsStill g = Still s sound holds P sections quiet_of opens_of v off_of g

    -- a leaf that does a section, or takes a request, is a server
    serves : (g : S) (k x : ℕ) (is : who (view g.m) x ≡ Some k) → v x ≡ true
        → (d : Component) × (slice_get u.components x ≡ Some d) × (is_some d.node.provides ≡ true)
    serves g k x is at = by (who_is (view g.m) k x is)
      where
        by : IsWorking (view g.m) k x ⊎ IsServing (view g.m) k x
            → (d : Component) × (slice_get u.components x ≡ Some d) × (is_some d.node.provides ≡ true)
        by (inr p) =
            let t = taken_there u (view g.m) g.good.held.placed k x p in
            used_server s sound t.0.client x (subst (Uses u t.0.client) t.2 (g.good.held.placed.uses p.taken.0.session t.0 t.1))
        by (inl w) =
            let q = g.begun x at w.at.leaf w.at.there (active_at w.at.leaf.phase (goes_on (view g.m) g.good.held.calm k x w)) in
            let r = handled u (view g.m) g.good.held.placed x w.at.leaf.phase q.0
            (ap stance_in w.at.there ∙ ap (λ o. Some (stance w.at.leaf.phase o)) q.1) in
            let uses = g.good.held.placed.uses q.0.session r.waiting.session r.waiting.there in
            used_server s sound r.waiting.session.client x (subst (Uses u r.waiting.session.client) r.server uses)

    -- A WAY

    -- turns of these servers from a point, that say nothing; after n of them
    record IsWay (first : S) (p : Point) (n : ℕ) (g : S) : Type 0 where
      q : Point
      at : g.m.world ≡ q.world
      said : q.said ≡ p.said
      back : (k : ℕ) → EndsWithin s k t q → EndsWithin s (k + n) t p
      sum : taken g.m.world ≡ taken first.m.world + n

    abbrev way_none : (first : S) (p : Point) → first.m.world ≡ p.world → IsWay first p 0 first
    way_none first p at =
        record {
          q = p;
          at = at;
          said = refl;
          back = λ k r. let same : k ≡ k + 0 = omega arith in subst (λ n. EndsWithin s n t p) same r;
          sum = omega arith;
        }

    -- one turn more
    record IsOnWay (first : S) (p : Point) (n : ℕ) (q : Point) (g : S) : Type 0 where
      way : IsWay first p n g
      to : way.q ≡ q

    way_more : (first : S) (p : Point) (n : ℕ) (g : S) (w : IsWay first p n g) (z : ℕ) → v z ≡ true → (k : ℕ) → who (view g.m) z ≡ Some k
        → IsOnWay first p (suc n) (after_turn real z w.q) (one_step g z)
    way_more first p n g w z at k is =
        by_step s sound holds P sections quiet_of opens_of v off_of (λ g. IsOnWay first p (suc n) (after_turn real z w.q) g) g z
        (λ j f. go j (split s sound holds P sections quiet_of opens_of v off_of g z j f).1)
        (λ none. absurd (none_is k (for_v g z) none (ap (λ b. cond b (who (view g.m) z) None) at ∙ is)))
      where
        go : (j : ℕ) (is_j : who (view g.m) z ≡ Some j) → IsOnWay first p (suc n) (after_turn real z w.q) (next g j z is_j)
        go j is_j = record {
          way = record {
            q = after_turn real z w.q;
            at = turn_world s sound holds P sections quiet_of opens_of w.q g.m g.good w.at j z is_j;
            said = said_server s sound holds P sections quiet_of opens_of w.q g.m g.good w.at j z is_j d.0 d.1 d.2 ∙ w.said;
            back = λ k r. more k r;
            sum = sums;
          };
          to = refl;
        }
          where
            d : (d : Component) × (slice_get u.components z ≡ Some d) × (is_some d.node.provides ≡ true)
            d = serves g j z is_j at

            can : can_run real w.q.world z ≡ true
            can = ap (λ w. can_run real w z) (sym w.at) ∙ runs_who s sound holds P sections quiet_of g.m g.good j z is_j

            more : (k : ℕ) → EndsWithin s k t (after_turn real z w.q) → EndsWithin s (k + suc n) t p
            more k r =
                let same : suc k + n ≡ k + suc n = omega arith in
                subst (λ n. EndsWithin s n t p) same
                (w.back (suc k) (record { turns = z ∷ r.turns; few = (let few = r.few in omega (arith, few)); ends = (can, r.ends) }))

            sums : taken (next g j z is_j).m.world ≡ taken first.m.world + suc n
            sums =
                let l = run_there g.m.world z (slice_get u.components z) (slice_get g.m.world.leaves z)
                (runs_who s sound holds P sections quiet_of g.m g.good j z is_j) in
                let there = slice_get_within g.m.world.leaves z l.0 l.1 in
                let count = length-map g.m.world.leaves (λ (l : Leaf). l.steps) in
                let one : taken (next g j z is_j).m.world ≡ suc (taken g.m.world)
                = ap (sum_by (λ (n : ℕ). n)) (steps_end s sound holds P sections quiet_of g.m g.good j z is_j)
                ∙ total_raised (steps_of g.m.world) z (omega (arith, there, count)) in
                let old = w.sum in omega (arith, one, old)

    -- some such server can take a turn, or none
    some_can : (g : S) → IsStill g ⊎ ((z : ℕ) × (v z ≡ true) × (can_run u g.m.world z ≡ true))
    some_can g = by (any_below test (length u.components)) refl
      where
        test : ℕ → Bool
        test z = v z && can_run u g.m.world z

        within : (z : ℕ) → can_run u g.m.world z ≡ true → z < length u.components
        within z can =
            let l = run_there g.m.world z (slice_get u.components z) (slice_get g.m.world.leaves z) can in
            let below = slice_get_within g.m.world.leaves z l.0 l.1 in
            let count = g.good.lasts.stands.whole.count in omega (arith, below, count)

        by : (b : Bool) → any_below test (length u.components) ≡ b → IsStill g ⊎ ((z : ℕ) × (v z ≡ true) × (can_run u g.m.world z ≡ true))
        by true f = let p = below_found test (length u.components) f in let q = both (v p.0) (can_run u g.m.world p.0) p.1 in inr (p.0, q.0, q.1)
        by false f = inl (λ z at. none z at (can_run u g.m.world z) refl)
          where
            none : (z : ℕ) → v z ≡ true → (b : Bool) → can_run u g.m.world z ≡ b → b ≡ false
            none z at false can = refl
            none z at true can =
                absurd (true≢false (sym (below_there test (length u.components) z (within z can) (λ i. at i && can i)) ∙ f))

    -- turns up to where none can take one
    record IsSettled (first : S) (p : Point) : Type 0 where
      ds : List ℕ
      way : IsWay first p (length ds) (later first ds)
      still : IsStill (later first ds)

    -- where runs end, they do in so many turns less
    record SettlesWithin (first : S) (p : Point) (k : ℕ) : Type 0 where
      settled : IsSettled first p
      left : ℕ
      count : left + length settled.ds ≡ k
      ends : EndsWithin s left t settled.way.q

    settle_in : (first : S) (p : Point) (k n : ℕ) → ((j : ℕ) → j < n → TakesFirst j) → (ds : List ℕ) (w : IsWay first p (length ds) (later first ds))
        → EndsWithin s n t w.q → n + length ds ≡ k → SettlesWithin first p k
    settle_in first p k zero takes ds w r count = elim (some_can (later first ds)) [
      | inl still ↦ record { settled = record { ds = ds; way = w; still = still }; left = zero; count = count; ends = r }
      | inr z ↦ absurd (no r.turns r.few r.ends z.0 (ap (λ w. can_run real w z.0) (sym w.at) ∙ z.2))
    ]
      where
        no : (turns : List ℕ) → length turns ≤ 0 → Ends s w.q turns t → (z : ℕ) → can_run real w.q.world z ≡ true → ⊥
        no [] few ends z can = true≢false (sym can ∙ rests_still real e.racy w.q.world ends.0 z)
        no (x ∷ turns) few ends z can = omega (arith, few)
    settle_in first p k (suc n) takes ds w r count = by (λ ds w r c. settle_in first p k n (λ j l. takes j (omega (arith, l))) ds w r c)
        (some_can (later first ds))
      where
        g : S
        g = later first ds

        by : ((ds : List ℕ) (w : IsWay first p (length ds) (later first ds)) → EndsWithin s n t w.q → n + length ds ≡ k → SettlesWithin first p k)
            → IsStill g ⊎ ((z : ℕ) × (v z ≡ true) × (can_run u g.m.world z ≡ true)) → SettlesWithin first p k
        by go (inl still) = record { settled = record { ds = ds; way = w; still = still }; left = suc n; count = count; ends = r }
        by go (inr z) =
            let i = who_runs s sound holds P sections quiet_of g.m z.0 z.2 in
            let more = way_more first p (length ds) g w z.0 z.1 i.0 i.1 in
            go (z.0 ∷ ds) more.way (subst (EndsWithin s n t) (sym more.to) (takes n (omega arith) w.q g.m g.good g.opened w.at i.0 z.0 i.1
            (λ y chosen. never_asks s sound holds P sections quiet_of opens_of g.m g.good g.opened shared_of lower i.0 z.0 i.1 (off_of z.0 z.1)
            (g.begun z.0 z.1) y (choice_held y chosen)) r)) (omega (arith, count))

    -- all work ends, so they settle anyway
    settle_all : (first : S) (p : Point) (n : ℕ) (ds : List ℕ) (w : IsWay first p (length ds) (later first ds)) → budgeted s (start u)
        ≤ n + taken (later first ds).m.world → IsSettled first p
    settle_all first p zero ds w most = elim (some_can (later first ds)) [
      | inl still ↦ record { ds = ds; way = w; still = still }
      | inr z ↦
          (let i = who_runs s sound holds P sections quiet_of (later first ds).m z.0 z.2 in
          let more = way_more first p (length ds) (later first ds) w z.0 z.1 i.0 i.1 in
          let sum = more.way.sum in
          let old = w.sum in
          let ends = work_ends s (later first (z.0 ∷ ds)).m.world (later first (z.0 ∷ ds)).good.lasts [] in
          let same : budgeted s (later first (z.0 ∷ ds)).m.world ≡ budgeted s (start u)
          = ap (sum_by (λ (n : ℕ). n)) (steps_one s sound holds P sections quiet_of (first_held s sound holds P sections quiet_of) (later first (z.0 ∷ ds)).m
          (good_first s sound holds P sections quiet_of) (later first (z.0 ∷ ds)).good (step_budgets (budgets s))) in
          absurd (omega (arith, sum, old, ends, same, most)))
    ]
    settle_all first p (suc n) ds w most = by (λ ds w most. settle_all first p n ds w most) (some_can (later first ds))
      where
        by : ((ds : List ℕ) (w : IsWay first p (length ds) (later first ds)) → budgeted s (start u) ≤ n + taken (later first ds).m.world
            → IsSettled first p)
            → IsStill (later first ds) ⊎ ((z : ℕ) × (v z ≡ true) × (can_run u (later first ds).m.world z ≡ true)) → IsSettled first p
        by go (inl still) = record { ds = ds; way = w; still = still }
        by go (inr z) =
            let i = who_runs s sound holds P sections quiet_of (later first ds).m z.0 z.2 in
            let more = way_more first p (length ds) (later first ds) w z.0 z.1 i.0 i.1 in
            let sum = more.way.sum in
            let old = w.sum in
            go (z.0 ∷ ds) more.way (omega (arith, sum, old, most))

    -- IN BOTH

    module _ (used : (y z : ℕ) → v y ≡ true → Uses u y z → holds z ≡ false → v z ≡ true) where
      -- where some such server can take a turn, runs from two such worlds end the same, if those with fewer turns do
      pub settles_both : (one other : S) (o : AreOne s sound holds P sections quiet_of one.m other.m) (p q : Point) → one.m.world ≡ p.world
          → other.m.world ≡ q.world → p.said ≡ q.said → (z : ℕ) → v z ≡ true → can_run u one.m.world z ≡ true → (k : ℕ)
          → ((j : ℕ) → j < k → TakesFirst j) → ((j : ℕ) → j < k → EndsSame j) → EndsWithin s k t p → EndsWithin s k t q
      settles_both one other o p q at_p at_q said z at can k takes same ends =
          subst (λ n. EndsWithin s n t q) (let count = f.count in let n = counts in omega (arith, count, n))
          (h.way.back f.left (same f.left (let count = f.count in omega (arith, count, some)) f.settled.way.q h.way.q like f.ends))
        where
          f : SettlesWithin one p k
          f = settle_in one p k k takes [] (way_none one p at_p) ends (omega arith)

          h : IsSettled other q
          h = settle_all other q (budgeted s (start u)) [] (way_none other q at_q) (omega arith)

          alike : AreOne s sound holds P sections quiet_of (later one f.settled.ds).m (later other h.ds).m
          alike = still_one s sound holds P sections quiet_of opens_of v off_of one other o shared_of lower used f.settled.ds h.ds f.settled.still h.still

          counts : length f.settled.ds ≡ length h.ds
          counts =
              let a = f.settled.way.sum in
              let b = h.way.sum in
              let c = ap (sum_by (λ (n : ℕ). n)) o.steps in
              let d = ap (sum_by (λ (n : ℕ). n)) alike.steps in omega (arith, a, b, c, d)

          some : 0 < length f.settled.ds
          some = by f.settled.ds f.settled.still
            where
              by : (ds : List ℕ) → IsStill (later one ds) → 0 < length ds
              by [] still = absurd (true≢false (sym can ∙ still z at))
              by (x ∷ ds) still = omega arith

          like : IsLike s sound holds P sections quiet_of opens_of f.settled.way.q h.way.q
          like = record {
            m = (later one f.settled.ds).m;
            n = (later other h.ds).m;
            at = f.settled.way.at;
            at_n = h.way.at;
            good_m = (later one f.settled.ds).good;
            good_n = (later other h.ds).good;
            opened_m = (later one f.settled.ds).opened;
            opened_n = (later other h.ds).opened;
            one = alike;
            said = f.settled.way.said ∙ (said ∙ sym h.way.said);
          }
