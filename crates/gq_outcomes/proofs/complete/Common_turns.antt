-- Where a server that is not held takes a request in one of two worlds in which all threads have the same, some turn can be taken in both, or some server that
-- is done with `main`, as all are that are not held and that it reaches, can take one.
use Rattle.std.proofs.Common.{◌≡◌, ◌⊎◌, inl, inr, ℕ, zero, suc, ◌&&◌, ◌||◌, not, Bool, true, false, [], length, Option, Some, None}
use Rattle.std.proofs.Common.{refl, ap, sym, ◌∙◌, subst, arith}
use Rattle.std.specs.Prelude.{is_some, nat_lt, slice_get}
use Rattle.std.proofs.lemmas.Bool.{true≢false}
use Rattle.std.proofs.lemmas.Option.{slice_get_within}
use Rattle.gq_model.specs.declared.phase.Phase.{Phase}
use Rattle.gq_model.specs.declared.phase.Phase.TheVariants.{Pending, Running, Blocked, Serving, Handling, Exited}
use Rattle.gq_model.specs.declared.program.Instruction.{Instruction}
use Rattle.gq_model.specs.machine.Scenario.{Component, Scenario, System, system}
use Rattle.gq_model.specs.machine.Step.{oldest}
use Rattle.gq_model.specs.machine.World.{Current, Leaf, Session, World, session_at}
use Rattle.gq_model.specs.rules.Use.{reaches}
use Rattle.gq_model.proofs.Small_facts.{get_within, some_same}
use Rattle.gq_laws.specs.Leaf_phases.{Suits}
use Rattle.gq_laws.specs.Session_links.{Waits, links, outline, stance, stance_in}
use Rattle.gq_laws.specs.Sound_scenarios.{IsSound}
use Rattle.gq_model.specs.machine.Rest.{can_run, runs, runs_as}
use Rattle.gq_laws.specs.internal.Uncounted.{uncounted}
use Rattle.gq_laws.proofs.Outside_step_untouched.{outlined}
use Rattle.gq_laws.proofs.verified_programs.Use_chains.{Uses, chain_short}
use Rattle.gq_races.specs.Races.{any_below}
use Rattle.gq_determined.specs.internal.Threads.{is_active, thread_by, who, who_by, who_of}
use Rattle.gq_determined.proofs.thread_positions.First_request_given.{working_serving}
use Rattle.gq_determined.proofs.thread_positions.Single_thread_position.{IsWaiting}
use Rattle.gq_determined.proofs.thread_positions.Turn_thread_position.{IsServing, IsWorking, who_is}
use Rattle.gq_determined.proofs.thread_runs.Raceless_first_statements.{OpensThere}
use Rattle.gq_determined.proofs.thread_runs.Remaining_section_statements.{AreSections, Lefts}
use Rattle.gq_outcomes.proofs.complete.Held_worlds.{AreQuiet, Held, view}
use Rattle.gq_outcomes.proofs.complete.Good_worlds.{c, there_c}
use Rattle.gq_outcomes.proofs.complete.Order_of_requests.{asked_of}
use Rattle.gq_outcomes.proofs.complete.Order_steps.{ordered}
use Rattle.gq_outcomes.proofs.complete.Alike_held.{IsGood, end}
use Rattle.gq_outcomes.proofs.complete.Rest_alike.{who_runs}
use Rattle.gq_outcomes.proofs.complete.Asked_uses.{next_uses}
use Rattle.gq_outcomes.proofs.complete.Calm_turns.{not_named}
use Rattle.gq_outcomes.proofs.complete.Opened_sections.{Begun}
use Rattle.gq_outcomes.proofs.complete.Sections_below.{any_below_more, both, serves_one}
use Rattle.gq_outcomes.proofs.complete.Used_servers.{IsShort, below_found, below_there, reach_more, reach_one, reach_used, short_reached, short_used}
use Rattle.gq_outcomes.proofs.complete.Used_servers.{used_below, used_server}
use Rattle.gq_outcomes.proofs.complete.Unsubmitted_signals.{goes_on}

both_true : (a b : Bool) → a ≡ true → b ≡ true → (a && b) ≡ true
both_true a b e f = λ i. e i && f i

not_true : (b : Bool) → not b ≡ true → b ≡ false
not_true true e = absurd (true≢false (sym e))
not_true false e = refl

-- BEGUN

-- a leaf does nothing, or it does a section
abbrev begun_at : Option Leaf → Bool
begun_at None = true
begun_at (Some l) = not (is_active l.phase) || is_some l.current

abbrev begun_in : World → ℕ → Bool
begun_in w y = begun_at (slice_get w.leaves y)

begun_of : (w : World) (y : ℕ) → begun_in w y ≡ true → Begun w y
begun_of w y e l at act = by l.current (sym (λ i. not (act i) || is_some l.current) ∙ (sym (ap begun_at at) ∙ e))
  where
    by : (o : Option Current) → (false || is_some o) ≡ true → (q : Current) × (o ≡ Some q)
    by (Some q) f = (q, refl)
    by None f = absurd (true≢false (sym f))

-- else it is in `main`
record InMain (w : World) (y : ℕ) : Type 0 where
  leaf : Leaf
  there : slice_get w.leaves y ≡ Some leaf
  is_active : is_active leaf.phase ≡ true

in_main_of : (w : World) (y : ℕ) → begun_in w y ≡ false → InMain w y
in_main_of w y e = by (slice_get w.leaves y) refl e
  where
    of : (l : Leaf) → slice_get w.leaves y ≡ Some l → (a : Bool) → is_active l.phase ≡ a → (not a || is_some l.current) ≡ false → InMain w y
    of l at true act f = record { leaf = l; there = at; is_active = act }
    of l at false act f = absurd (true≢false f)

    by : (o : Option Leaf) → slice_get w.leaves y ≡ o → begun_at o ≡ false → InMain w y
    by None at f = absurd (true≢false f)
    by (Some l) at f = of l at (is_active l.phase) refl f

module _ (s : Scenario) (sound : IsSound s) (holds : ℕ → Bool) where
  abbrev u : System
  u = uncounted (system s)

  -- DONE WITH `main`

  -- a server that is not held, and is in `main`, is reached
  abbrev main_below : World → ℕ → ℕ → Bool
  main_below w z y = reaches (length u.components) u y z && (not (holds y) && not (begun_in w y))

  -- a server is not held, and has done `main`, as all have that are not held and that it reaches
  abbrev pub is_done : World → ℕ → Bool
  is_done w z = not (holds z) && (begun_in w z && not (any_below (main_below w z) (length u.components)))

  pub done_off : (w : World) (z : ℕ) → is_done w z ≡ true → holds z ≡ false
  done_off w z e = not_true (holds z) (both (not (holds z)) (begun_in w z && not (any_below (main_below w z) (length u.components))) e).0

  parts : (w : World) (z : ℕ) → is_done w z ≡ true → (begun_in w z ≡ true) × (any_below (main_below w z) (length u.components) ≡ false)
  parts w z e =
      let more = (both (not (holds z)) (begun_in w z && not (any_below (main_below w z) (length u.components))) e).1 in
      let p = both (begun_in w z) (not (any_below (main_below w z) (length u.components))) more in
      (p.0, not_true (any_below (main_below w z) (length u.components)) p.1)

  pub done_begun : (w : World) (z : ℕ) → is_done w z ≡ true → Begun w z
  done_begun w z e = begun_of w z (parts w z e).0

  -- else one that it reaches, and that is not held, is in `main`
  record IsLate (w : World) (z : ℕ) : Type 0 where
    y : ℕ
    reached : reaches (length u.components) u y z ≡ true
    off : holds y ≡ false
    main : InMain w y

  late_of : (w : World) (z : ℕ) → is_done w z ≡ false → holds z ≡ false → begun_in w z ≡ true → IsLate w z
  late_of w z e off begun = by (any_below (main_below w z) (length u.components)) refl
    where
      by : (b : Bool) → any_below (main_below w z) (length u.components) ≡ b → IsLate w z
      by false f = absurd (true≢false (sym (λ i. not (off i) && (begun i && not (f i))) ∙ e))
      by true f =
          let p = below_found (main_below w z) (length u.components) f in
          let q = both (reaches (length u.components) u p.0 z) (not (holds p.0) && not (begun_in w p.0)) p.1 in
          let r = both (not (holds p.0)) (not (begun_in w p.0)) q.1 in
          record { y = p.0; reached = q.0; off = not_true (holds p.0) r.0; main = in_main_of w p.0 (not_true (begun_in w p.0) r.1) }

  module _ (P : ℕ → Component → Bool → Instruction → Type 0) (sections : AreSections P (uncounted (system s)))
      (quiet_of : (w : World) → Lefts P (uncounted (system s)) w → AreQuiet holds w)
      (m : Held) (h : IsGood s sound holds P sections quiet_of m) where
    -- what such a server uses is done with `main`, too, if it is not held
    pub done_used : (y z : ℕ) → is_done m.world y ≡ true → Uses u y z → holds z ≡ false → is_done m.world z ≡ true
    done_used y z e uses off = λ i. not (off i) && (begun i && not (none i))
      where
        p : (begun_in m.world y ≡ true) × (any_below (main_below m.world y) (length u.components) ≡ false)
        p = parts m.world y e

        begun : begun_in m.world z ≡ true
        begun = by (begun_in m.world z) refl
          where
            by : (b : Bool) → begun_in m.world z ≡ b → b ≡ true
            by true f = refl
            by false f =
                absurd (true≢false (sym (below_there (main_below m.world y) (length u.components) z (used_below s sound y z uses)
                (λ i. reach_one s sound h.held.placed.acyclic y z uses i && (not (off i) && not (f i)))) ∙ p.1))

        none : any_below (main_below m.world z) (length u.components) ≡ false
        none = by (any_below (main_below m.world z) (length u.components)) refl
          where
            further : (x : ℕ) → main_below m.world z x ≡ true → main_below m.world y x ≡ true
            further x f =
                let q = both (reaches (length u.components) u x z) (not (holds x) && not (begun_in m.world x)) f in
                both_true (reaches (length u.components) u x y) (not (holds x) && not (begun_in m.world x))
                (reach_more s sound h.held.placed.acyclic y z x uses q.0) q.1

            by : (b : Bool) → any_below (main_below m.world z) (length u.components) ≡ b → b ≡ false
            by false f = refl
            by true f = absurd (true≢false (sym (any_below_more (main_below m.world z) (main_below m.world y) further (length u.components) f) ∙ p.1))

    -- TURNS IN BOTH

    module _ (opens_of : (x : ℕ) (c : Component) (later : Bool) (i : Instruction) → P x c later i → OpensThere (uncounted (system s)) c later i)
        (choice : ℕ → Bool) (Clear : ℕ → Type 0) (clear_off : (z : ℕ) → holds z ≡ false → Clear z)
        (clear_used : (y z : ℕ) → Clear y → Uses (uncounted (system s)) y z → Clear z) (clear_not : (z : ℕ) → Clear z → choice z ≡ false) where
      -- a turn that asks no choice, of a leaf that works or of a server that is held
      pub record IsCommon : Type 0 where
        pub i : ℕ
        pub x : ℕ
        pub is : who (view m) x ≡ Some i
        pub how : IsWorking (view m) i x ⊎ (holds x ≡ true)
        pub calm : (z : ℕ) → choice z ≡ true → asked_of (end s sound holds P sections quiet_of m h i x is) i z ≡ []

      -- a server that is done with `main` can take a turn
      pub record CanSettle : Type 0 where
        pub z : ℕ
        pub done : is_done m.world z ≡ true
        pub can : can_run u m.world z ≡ true

      -- a leaf does something, or has a request to take
      pub record IsBusy (z : ℕ) : Type 0 where
        pub leaf : Leaf
        pub there : slice_get m.world.leaves z ≡ Some leaf
        pub started : leaf.phase ≡ Pending → ⊥
        pub lasts : leaf.phase ≡ Exited → ⊥
        pub asked : leaf.phase ≡ Serving → is_some (oldest m.world z m.world.requests) ≡ true

      -- a server that is used, and that has a request where it serves
      busy_used : (y z : ℕ) → Uses u y z
          → ((l : Leaf) → slice_get m.world.leaves z ≡ Some l → l.phase ≡ Serving → is_some (oldest m.world z m.world.requests) ≡ true) → IsBusy z
      busy_used y z uses asked = record {
        leaf = leaf.0;
        there = leaf.1;
        started = λ e. true≢false (sym d.2 ∙ ap is_some (subst (Suits d.0.node.provides d.0.node.signals) e suits));
        lasts = λ e. true≢false (sym (ap (λ b. b || nat_lt 0 d.0.node.signals) d.2) ∙ subst (Suits d.0.node.provides d.0.node.signals) e suits);
        asked = asked leaf.0 leaf.1;
      }
        where
          d : (d : Component) × (slice_get u.components z ≡ Some d) × (is_some d.node.provides ≡ true)
          d = used_server s sound y z uses

          leaf : (l : Leaf) × (slice_get m.world.leaves z ≡ Some l)
          leaf =
              let below = slice_get_within u.components z d.0 d.1 in
              let count = h.lasts.stands.whole.count in
              let l = get_within m.world.leaves z (omega (arith, below, count)) in (l.0, l.1)

          suits : Suits d.0.node.provides d.0.node.signals leaf.0.phase
          suits = h.lasts.ready.suits z d.0 leaf.0 d.1 leaf.1

      -- a leaf that works
      working : (z : ℕ) (l : Leaf) → Clear z → slice_get m.world.leaves z ≡ Some l → (l.phase ≡ Running) ⊎ (l.phase ≡ Handling) → IsCommon
      working z l clear there r = record {
        i = thread_by (view m).root z l.current;
        x = z;
        is = is;
        how = elim (who_is (view m) (thread_by (view m).root z l.current) z is) [ inl w ↦ inl w | inr p ↦ absurd (serves p) ];
        calm = λ y chosen. not_named s sound holds P sections quiet_of m h (thread_by (view m).root z l.current) z is y
            (λ named. true≢false (sym chosen ∙ clear_not y (clear_used z y clear (next_uses s sound holds P sections quiet_of m h y opens_of z
            (c s sound holds P sections quiet_of m h (thread_by (view m).root z l.current) z is)
            (there_c s sound holds P sections quiet_of m h (thread_by (view m).root z l.current) z is) l there named))));
      }
        where
          is : who (view m) z ≡ Some (thread_by (view m).root z l.current)
          is = ap (who_of (view m) z) there ∙ elim r [
            | inl e ↦ ap (who_by (view m) z l.current l.signals) e
            | inr e ↦ ap (who_by (view m) z l.current l.signals) e
          ]

          serves : IsServing (view m) (thread_by (view m).root z l.current) z → ⊥
          serves p = working_serving l.phase r (ap (λ (l : Leaf). l.phase) (some_same (sym there ∙ p.there)) ∙ p.serves)

      -- a server that takes a request
      takes : (z : ℕ) (l : Leaf) → slice_get m.world.leaves z ≡ Some l → l.phase ≡ Serving → holds z ≡ true → (i : ℕ) → who (view m) z ≡ Some i → IsCommon
      takes z l there serves can i is = by (who_is (view m) i z is)
        where
          by : IsWorking (view m) i z ⊎ IsServing (view m) i z → IsCommon
          by (inl w) = absurd (working_serving w.at.leaf.phase (goes_on (view m) h.held.calm i z w)
              (ap (λ (l : Leaf). l.phase) (some_same (sym w.at.there ∙ there)) ∙ serves))
          by (inr p) = record {
            i = i;
            x = z;
            is = is;
            how = inr can;
            calm = λ y chosen. (ordered s sound holds P sections quiet_of m h i z is).quiet_then p y;
          }

      abbrev pub Found : Type 0
      Found = IsCommon ⊎ CanSettle

      -- uses lead down
      abbrev More : ℕ → Type 0
      More n = (y : ℕ) → Clear y → IsBusy y → IsShort u n y → Found

      served : (n z : ℕ) (b : IsBusy z) → b.leaf.phase ≡ Serving → IsShort u (suc n) z → More n → Found
      served n z b e short more = on (holds z) refl
        where
          can : can_run u m.world z ≡ true
          can =
              let below = slice_get_within m.world.leaves z b.leaf b.there in
              let count = h.lasts.stands.whole.count in
              let d = get_within u.components z (omega (arith, below, count)) in
              (λ j. runs_as m.world z (d.1 j) (b.there j)) ∙ (ap (runs m.world z b.leaf) e
              ∙ (ap (λ s. is_some s || is_some (oldest m.world z m.world.requests)) (h.held.calm.none z b.leaf b.there) ∙ b.asked e))

          begun : begun_in m.world z ≡ true
          begun = ap begun_at b.there ∙ ap (λ p. not (is_active p) || is_some b.leaf.current) e

          late : IsLate m.world z → Found
          late y = more y.y (clear_off y.y y.off) (let r = reach_used u (length u.components) y.y z y.reached in busy_used r.0 y.y r.1 (λ l at f.
              absurd (true≢false (sym y.main.is_active ∙ (ap (λ (l : Leaf). is_active l.phase) (some_same (sym y.main.there ∙ at)) ∙ ap is_active f)))))
              (short_reached u (length u.components) n z y.y short y.reached)

          of : holds z ≡ false → (b : Bool) → is_done m.world z ≡ b → Found
          of off true f = inr (record { z = z; done = f; can = can })
          of off false f = late (late_of m.world z f off begun)

          on : (b : Bool) → holds z ≡ b → Found
          on true f = let i = who_runs s sound holds P sections quiet_of m z can in inl (takes z b.leaf b.there e f i.0 i.1)
          on false f = of f (is_done m.world z) refl

      waits : (n z : ℕ) (b : IsBusy z) → Clear z → b.leaf.phase ≡ Blocked → IsShort u (suc n) z → More n → Found
      waits n z b clear e short more =
          more a.session.server (clear_used z a.session.server clear uses)
          (busy_used z a.session.server uses (λ l at serves. serves_one s sound holds P sections quiet_of m h q.0 a l at serves))
          (short_used u n z a.session.server short uses)
        where
          at : (links m.world).stances z ≡ Some (stance Blocked b.leaf.current)
          at = ap stance_in b.there ∙ ap (λ p. Some (stance p b.leaf.current)) e

          q : (k : ℕ) × (t : Session) × ((links m.world).sessions k ≡ Some t) × (t.client ≡ z) × ((links m.world).slots t.slot_id ≡ Some (Waits k))
          q = h.held.placed.linked.blocked z b.leaf.current at

          t : (a : Session) × (session_at m.world q.0 ≡ Some a) × (outline a ≡ q.1)
          t = outlined (session_at m.world q.0) q.1 q.2

          client : t.0.client ≡ z
          client = ap (λ (s : Session). s.client) t.2 ∙ q.3

          a : IsWaiting u (view m) h.held.placed q.0
          a = record {
            session = t.0;
            there = t.1;
            slot = ap (λ (s : Session). (links m.world).slots s.slot_id) t.2 ∙ q.4;
            current = b.leaf.current;
            client = ap (links m.world).stances client ∙ at;
          }

          uses : Uses u z a.session.server
          uses = subst (λ y. Uses u y a.session.server) client (h.held.placed.uses q.0 a.session a.there)

      by_phase : (n z : ℕ) (b : IsBusy z) → Clear z → IsShort u (suc n) z → More n → (p : Phase) → b.leaf.phase ≡ p → Found
      by_phase n z b clear short more Pending e = absurd (b.started e)
      by_phase n z b clear short more Exited e = absurd (b.lasts e)
      by_phase n z b clear short more Running e = inl (working z b.leaf clear b.there (inl e))
      by_phase n z b clear short more Handling e = inl (working z b.leaf clear b.there (inr e))
      by_phase n z b clear short more Serving e = served n z b e short more
      by_phase n z b clear short more Blocked e = waits n z b clear e short more

      walk : (n z : ℕ) → Clear z → IsBusy z → IsShort u n z → Found
      walk zero z clear b short =
          let below = slice_get_within m.world.leaves z b.leaf b.there in
          let count = h.lasts.stands.whole.count in
          let less = short [] (omega (arith, below, count)) in absurd (omega (arith, less))
      walk (suc n) z clear b short = by_phase n z b clear short (λ y f c l. walk n y f c l) b.leaf.phase refl

      -- from a server that takes a request
      pub some_turn : (i z : ℕ) → holds z ≡ false → IsServing (view m) i z → Found
      some_turn i z off p =
          walk (length u.components) z (clear_off z off) (record {
            leaf = p.leaf;
            there = p.there;
            started = λ e. no (sym p.serves ∙ e);
            lasts = λ e. gone (sym p.serves ∙ e);
            asked = λ e. ap is_some p.found;
          }) (λ rest chain. chain_short u h.held.placed.acyclic z rest chain)
        where
          no : Serving ≡ Pending → ⊥
          no e = cc

          gone : Serving ≡ Exited → ⊥
          gone e = cc
