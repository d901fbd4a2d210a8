-- A step for a thread that has the same in two worlds.
use Rattle.std.proofs.Common.{◌≡◌, ◌≢◌, ◌⊎◌, ℕ, suc, ◌==◌, ◌&&◌, ◌||◌, inl, inr, Bool, true, false, cond, List, [], ◌∷◌, map, Option, Some, None, Ok}
use Rattle.std.proofs.Common.{refl, ap, sym, ◌∙◌, subst}
use Rattle.std.specs.Prelude.{is_some, option_map, slice_get}
use Rattle.std.proofs.lemmas.Bool.{true≢false}
use Rattle.std.proofs.lemmas.Bool.Decides.{eqb_tells}
use Rattle.gq_model.specs.declared.phase.Phase.TheVariants.{Running, Blocked, Serving, Handling}
use Rattle.gq_model.specs.machine.Scenario.{System, Component}
use Rattle.gq_model.specs.machine.World.{SlotId, In_leaf, In_session, In_object, Session, Request, Current, Signal, Leaf, World, session_at}
use Rattle.gq_model.specs.machine.Sums.{paid}
use Rattle.gq_model.specs.machine.Doing.{Doing, Event}
use Rattle.gq_model.specs.machine.Requests.{free_place}
use Rattle.gq_model.specs.machine.Step.{oldest, accept, accept_oldest, first_signal, take_signal, serve, step_in, step_of, next}
use Rattle.gq_model.proofs.Small_facts.{none_some, some_same, equal_self}
use Rattle.gq_laws.specs.Shapes.{Each}
use Rattle.gq_laws.specs.Inside_steps.{TakesLeaf}
use Rattle.gq_laws.specs.Session_links.{stance, stance_in, outline, outline_in, links, Belongs, Fits, IsAsked}
use Rattle.gq_laws.proofs.session_links.Asked_request_changes.{same_phase, same_current}
use Rattle.gq_laws.proofs.Outside_step_untouched.{free_none, outlined}
use Rattle.gq_laws.specs.Renamed.{renamed_current, renamed_slot, renamed_leaf}
use Rattle.gq_determined.specs.internal.Threads.{Tracked, thread_by, anew, works, works_for, among, slots_of, seen, seen_by, IsAtSame, IsSameRegion}
use Rattle.gq_determined.specs.internal.Threads.{Accepts, has_work, IsSameThread}
use Rattle.gq_determined.proofs.passing_threads.Kept_by_steps.{Aside, other_doing}
use Rattle.gq_determined.proofs.passing_threads.Kept_around.{AreTaken, Match, FirstAllowed, both_step}
use Rattle.gq_determined.proofs.regions.Outside_region_kept.{else_first}
use Rattle.gq_determined.proofs.regions.Related_step_worlds.{IsBelow, Ours, Mine, IsRelated, IsRelatedWithin, IsBefore}
use Rattle.gq_determined.proofs.regions.Related_around.{IsOne, kept_around}
use Rattle.gq_determined.proofs.thread_positions.Single_thread_position.{root_at, IsPlaced, IsWaiting, IsHandled, handled, IsFirst, HasParent, above}
use Rattle.gq_determined.proofs.thread_positions.Single_thread_position.{root_waits}
use Rattle.gq_determined.proofs.regions.Renamed_regions.{region_renamed, region_roots, at_renamed}
use Rattle.gq_determined.proofs.thread_positions.Turn_thread_position.{Goes_on, Steps, IsWorking, ServesSame, own_at, taken_there, works_at, requested}

-- anew does not touch other numbers
pub anew_else : (f : ℕ → ℕ) (k a j : ℕ) → j ≢ k → anew f k a j ≡ f j
anew_else f k a j ne = elim (eqb_tells j k) [ inl t ↦ absurd (ne t.1) | inr t ↦ ap (λ b. cond b a (f j)) t.0 ]

pub anew_here : (f : ℕ → ℕ) (k a : ℕ) → anew f k a k ≡ a
anew_here f k a = ap (λ b. cond b a (f k)) (equal_self k)

or_cases : (b c : Bool) → (b || c) ≡ true → (b ≡ true) ⊎ (c ≡ true)
or_cases true c e = inl refl
or_cases false c e = inr e

or_right : (b : Bool) → (b || true) ≡ true
or_right true = refl
or_right false = refl

-- a session that is there has no free number
pub not_free : (w : World) (k : ℕ) (s : Session) → session_at w k ≡ Some s → k ≢ free_place w.sessions
not_free w k s there e = none_some (sym (free_none w.sessions) ∙ (ap (session_at w) (sym e) ∙ there))

pub each_asked : (w : World) (P : ℕ → Type 0) → ((k : ℕ) (s : Session) → session_at w k ≡ Some s → P k) → (rs : List Request)
    → Each (IsAsked (links w)) rs → Each (λ r. P r.session) rs
each_asked w P f [] each = tt
each_asked w P f (r ∷ rs) each =
    let s = outlined (session_at w r.session) each.0.0 each.0.1 in (f r.session s.0 s.1, each_asked w P f rs each.1)

-- what a leaf that takes a step is seen at
abbrev plain : Leaf → Leaf
plain l = record l { slots = []; peaks = []; steps = 0; inputs = [] }

seen_plain : (l : Leaf) → Goes_on l.phase → seen l ≡ plain l
seen_plain l (inl e) = ap (λ p. seen_by p l) e ∙ (λ j. record (plain l) { phase = sym e j })
seen_plain l (inr e) = ap (λ p. seen_by p l) e ∙ (λ j. record (plain l) { phase = sym e j })

-- a leaf that takes up a request keeps its slots, peaks, steps, inputs and signals, and what it reacts to, alone
accept_leaf : (d : Doing) (l : Leaf) (o : Option (Request × List Request)) → l.slots ≡ d.leaf.slots → l.peaks ≡ d.leaf.peaks → l.steps ≡ d.leaf.steps
    → l.inputs ≡ d.leaf.inputs → l.reacting ≡ d.leaf.reacting → l.signals ≡ d.leaf.signals
    → accept_oldest (record d { leaf = l }) o ≡ accept_oldest d o
accept_leaf d l None slots peaks steps inputs reacting signals = refl
accept_leaf d l (Some p) slots peaks steps inputs reacting signals =
    λ j. accept (record d {
      leaf = record d.leaf { slots = slots j; peaks = peaks j; steps = steps j; inputs = inputs j; reacting = reacting j; signals = signals j };
    }) p.0 p.1

-- one that takes a signal keeps its slots, peaks, steps and inputs, and what is current, alone
signal_leaf : (d : Doing) (l : Leaf) (p : ℕ × List Signal) → l.slots ≡ d.leaf.slots → l.peaks ≡ d.leaf.peaks → l.steps ≡ d.leaf.steps
    → l.inputs ≡ d.leaf.inputs → l.current ≡ d.leaf.current → take_signal (record d { leaf = l }) p.0 p.1 ≡ take_signal d p.0 p.1
signal_leaf d l p slots peaks steps inputs current =
    λ j. take_signal (record d {
      leaf = record d.leaf { slots = slots j; peaks = peaks j; steps = steps j; inputs = inputs j; current = current j };
    }) p.0 p.1

serving_running : Running ≡ Serving → ⊥
serving_running e = cc

serving_handling : Handling ≡ Serving → ⊥
serving_handling e = cc

module _ (u : System) (pays : (z : World) → paid u z ≡ true) (g h : Tracked) (t : IsPlaced u g) (th : IsPlaced u h) (i x : ℕ)
    (s : IsSameThread i g h) (sx : g.own x ≢ i → IsSameThread (g.own x) g h) (component : Component) (a b : Leaf)
    (there : slice_get g.world.leaves x ≡ Some a) (there_h : slice_get h.world.leaves x ≡ Some b) where
  abbrev pub d : Doing
  d = record { system = u; world = g.world; x = x; component = component; leaf = record a { steps = suc a.steps } }

  abbrev k0 : ℕ
  k0 = free_place g.world.sessions

  abbrev m0 : ℕ
  m0 = free_place h.world.sessions

  -- the leaves that work for the thread, and the one that takes the step
  abbrev pub c : ℕ → Bool
  c y = works g i y || y == x

  -- names by which both the thread's region and that of the leaf that takes the step are the same
  pub record HasNames : Type 0 where
    pub f : ℕ → ℕ
    pub own : (k : ℕ) → g.root k ≡ i → f k ≡ s.f k
    pub regions : (y : ℕ) → (y ≡ i) ⊎ (y ≡ g.own x) → IsSameRegion f g.own g.root h.root y g.world h.world

  pub names : HasNames
  names = by (eqb_tells (g.own x) i)
    where
      by : (((g.own x == i) ≡ true) × (g.own x ≡ i)) ⊎ (((g.own x == i) ≡ false) × (g.own x ≢ i)) → HasNames
      by (inl e) = record {
        f = s.f;
        own = λ k is. refl;
        regions = λ y r. subst (λ y. IsSameRegion s.f g.own g.root h.root y g.world h.world) (sym (of y r)) s.region;
      }
        where
          of : (y : ℕ) → (y ≡ i) ⊎ (y ≡ g.own x) → y ≡ i
          of y (inl q) = q
          of y (inr q) = q ∙ e.1
      by (inr e) = record {
        f = both;
        own = own;
        regions = λ y r. region y r;
      }
        where
          z : ℕ
          z = g.own x

          both : ℕ → ℕ
          both k = cond (g.root k == i) (s.f k) ((sx e.1).f k)

          own : (k : ℕ) → g.root k ≡ i → both k ≡ s.f k
          own k is = ap (λ b. cond b (s.f k) ((sx e.1).f k)) (ap (λ n. n == i) is ∙ equal_self i)

          else_own : (k : ℕ) → g.root k ≡ z → both k ≡ (sx e.1).f k
          else_own k is = elim (eqb_tells (g.root k) i) [
            | inl q ↦ absurd (e.1 (sym is ∙ q.1))
            | inr q ↦ ap (λ b. cond b (s.f k) ((sx e.1).f k)) q.0
          ]

          region : (y : ℕ) → (y ≡ i) ⊎ (y ≡ z) → IsSameRegion both g.own g.root h.root y g.world h.world
          region y (inl q) = subst (λ y. IsSameRegion both g.own g.root h.root y g.world h.world) (sym q)
              (region_renamed u g t s.f both i (λ k s there is. own k is) h.root h.world s.region)
          region y (inr q) = subst (λ y. IsSameRegion both g.own g.root h.root y g.world h.world) (sym q)
              (region_renamed u g t (sx e.1).f both z (λ k s there is. else_own k is) h.root h.world (sx e.1).region)

  -- the names once a new session has one, and the roots
  abbrev pub f : ℕ → ℕ
  f = anew names.f k0 m0

  abbrev pub root : ℕ → ℕ
  root = anew g.root k0 i

  abbrev pub other : ℕ → ℕ
  other = anew h.root m0 i

  regions : (y : ℕ) → (y ≡ i) ⊎ (y ≡ g.own x) → IsSameRegion f g.own root other y g.world h.world
  regions y r =
      region_roots f g.own g.root h.root root other y g.world h.world
      (λ k s there. anew_else g.root k0 i k (not_free g.world k s there))
      (λ k s there. anew_else h.root m0 i k (not_free h.world k s there))
      (each_asked g.world (λ k. root k ≡ g.root k) (λ k s there. anew_else g.root k0 i k (not_free g.world k s there)) g.world.requests t.linked.asked)
      (each_asked h.world (λ k. other k ≡ h.root k) (λ k s there. anew_else h.root m0 i k (not_free h.world k s there)) h.world.requests th.linked.asked)
      (region_renamed u g t names.f f y (λ k s there is. anew_else names.f k0 m0 k (not_free g.world k s there)) h.root h.world (names.regions y r))

  -- a current session is there
  current_there : (y : ℕ) (leaf : Leaf) (q : Current) → slice_get g.world.leaves y ≡ Some leaf → leaf.current ≡ Some q
      → (s : Session) × (session_at g.world q.session ≡ Some s)
  current_there y leaf q at current =
      let m = t.linked.handles y leaf.phase q (ap stance_in at ∙ ap (λ o. Some (stance leaf.phase o)) current) in
      let s = outlined (session_at g.world q.session) m.0 m.1 in (s.0, s.1)

  equal_of : (m n : ℕ) → (m == n) ≡ true → m ≡ n
  equal_of m n e = elim (eqb_tells m n) [ inl q ↦ q.1 | inr q ↦ absurd (true≢false (sym e ∙ q.0)) ]

  second : (b c : Bool) → (b && c) ≡ true → c ≡ true
  second true c e = e
  second false c e = absurd cc

  thread_of : (y : ℕ) (leaf : Leaf) → slice_get g.world.leaves y ≡ Some leaf → works g i y ≡ true → thread_by g.root y leaf.current ≡ i
  thread_of y leaf at is = equal_of _ _ (second _ _ (sym (ap (works_for g.root i y) at) ∙ is))

  at_works : (y : ℕ) → works g i y ≡ true → IsAtSame f y g.world h.world
  at_works y is = at_renamed u g t s.f f y h.world (λ leaf q at current.
      (let m = current_there y leaf q at current in
      anew_else names.f k0 m0 q.session (not_free g.world q.session m.0 m.1)
      ∙ names.own q.session (sym (ap (thread_by g.root y) current) ∙ thread_of y leaf at is))) (s.alike y is)

  -- WHAT IS KNOWN BEFORE THE STEP

  -- the current session, if there is one, is of the thread; the leaf's `main` is the thread
  pub record IsFor : Type 0 where
    pub active : a.phase ≡ Blocked → ⊥
    pub current : (q : Current) → a.current ≡ Some q → g.root q.session ≡ i
    pub main : a.current ≡ None → (Accepts a → ⊥) → g.own x ≡ i
    pub root_works : works g i i ≡ true
    pub at : IsAtSame f x g.world h.world

  module _ (o : IsFor) where
    at_c : (y : ℕ) → c y ≡ true → IsAtSame f y g.world h.world
    at_c y e = elim (or_cases (works g i y) (y == x) e) [
      | inl is ↦ at_works y is
      | inr q ↦ subst (λ y. IsAtSame f y g.world h.world) (sym (equal_of y x q)) o.at
    ]

    current_root : (q : Current) → a.current ≡ Some q → root q.session ≡ i
    current_root q at =
        let m = current_there x a q there at in anew_else g.root k0 i q.session (not_free g.world q.session m.0 m.1) ∙ o.current q at

    below : (k : ℕ) (s : Session) → session_at g.world k ≡ Some s → IsBelow g.own root k s.slot_id
    below k s at = by s.slot_id (t.below k s at) (t.linked.belongs k (outline s) (ap outline_in at))
      where
        own : root k ≡ g.root k
        own = anew_else g.root k0 i k (not_free g.world k s at)

        by : (q : SlotId) → g.root k ≡ root_at g.own g.root q → Belongs (links g.world) q s.client → IsBelow g.own root k q
        by (In_leaf y a) below b = own ∙ below
        by (In_session j a) below b =
            let p = outlined (session_at g.world j) b.0 b.1 in
            own ∙ (below ∙ sym (anew_else g.root k0 i j (not_free g.world j p.0 p.1)))
        by (In_object j) below b = tt

    -- the client of the current session works for the thread
    client : (q : Current) (s : Session) → a.current ≡ Some q → session_at g.world q.session ≡ Some s → c s.client ≡ true
    client q s at there_s = ap (λ b. b || (s.client == x)) works_client ∙ or_left (s.client == x)
      where
        or_left : (b : Bool) → (true || b) ≡ true
        or_left b = refl

        m : IsHandled u g t x q
        m = handled u g t x a.phase q (ap stance_in there ∙ ap (λ o. Some (stance a.phase o)) at)

        same : m.waiting.session ≡ s
        same = some_same (sym m.waiting.there ∙ there_s)

        -- a leaf that waits with this current session
        works_so : (y : ℕ) (current : Option Current) → stance_in (slice_get g.world.leaves y) ≡ Some (stance Blocked current) → thread_by g.root y current ≡ i
            → works g i y ≡ true
        works_so y current stood is = by (slice_get g.world.leaves y) stood
          where
            by : (p : Option Leaf) → stance_in p ≡ Some (stance Blocked current) → works_for g.root i y p ≡ true
            by None e = absurd (none_some e)
            by (Some l) e =
                let phase : l.phase ≡ Blocked = same_phase e in
                let currents : l.current ≡ current = same_current e in
                ap (λ p. has_work p (first_signal l.signals) && (thread_by g.root y l.current == i)) phase
                ∙ (ap (λ n. n == i) (ap (thread_by g.root y) currents ∙ is) ∙ equal_self i)

        works_client : works g i s.client ≡ true
        works_client = ap (λ (s : Session). works g i s.client) (sym same) ∙ of (above u g t q.session m.waiting)
          where
            client_is : (a : IsWaiting u g t q.session) → m.waiting.session.client ≡ a.session.client
            client_is a = ap (λ (s : Session). s.client) (some_same (sym m.waiting.there ∙ a.there))

            of : IsFirst u g t q.session ⊎ HasParent u g t q.session → works g i m.waiting.session.client ≡ true
            of (inl p) =
                ap (works g i) (client_is p.waiting ∙ p.client) ∙ works_so (g.root q.session) None p.at (o.current q at)
            of (inr p) =
                ap (works g i) (client_is p.waiting)
                ∙ works_so p.waiting.session.client (Some p.parent) p.at (sym p.root ∙ o.current q at)

    takes : TakesLeaf d
    takes = record { old = a; there = there; slots = refl; phase = refl; current = refl; reacting = refl }

    before : (aside : Aside) → IsBefore f aside d h.world i g.own root other c
    before aside = record {
      takes = takes;
      linked = t.linked;
      pays = pays;
      related = record { regions = regions; at = at_c; rest = else_first d i g.own root c (Ours f aside d h.world i g.own root other c) takes };
      here = ap (λ b. works g i x || b) (equal_self x) ∙ or_right (works g i x);
      active = o.active;
      current = current_root;
      client = client;
      main = o.main;
      below = below;
      fresh = anew_here names.f k0 m0;
      fresh_root = anew_here g.root k0 i;
      fresh_other = anew_here h.root m0 i;
    }

  -- THE STEP

  -- a leaf that waits works for its thread
  works_blocked : (y : ℕ) (current : Option Current) → stance_in (slice_get g.world.leaves y) ≡ Some (stance Blocked current) → thread_by g.root y current ≡ i
      → works g i y ≡ true
  works_blocked y current stood is = by (slice_get g.world.leaves y) stood
    where
      by : (p : Option Leaf) → stance_in p ≡ Some (stance Blocked current) → works_for g.root i y p ≡ true
      by None e = absurd (none_some e)
      by (Some l) e =
          let phase : l.phase ≡ Blocked = same_phase e in
          let currents : l.current ≡ current = same_current e in
          ap (λ p. has_work p (first_signal l.signals) && (thread_by g.root y l.current == i)) phase
          ∙ (ap (λ n. n == i) (ap (thread_by g.root y) currents ∙ is) ∙ equal_self i)

  root_alive : (k : ℕ) → g.root k ≡ i → IsWaiting u g t k → works g i i ≡ true
  root_alive k is w = works_blocked i None (ap (λ y. stance_in (slice_get g.world.leaves y)) (sym is) ∙ root_waits u g t k w) refl

  fits_serving : (current : Option Current) → Fits Serving current → (q : Current) → current ≡ Some q → ⊥
  fits_serving None f q e = none_some e
  fits_serving (Some p) f q e = absurd f

  serving_blocked : Serving ≡ Blocked → ⊥
  serving_blocked e = cc

  -- nothing is current at a leaf that serves
  none_current : (current : Option Current) → Fits Serving current → current ≡ None
  none_current None f = refl
  none_current (Some q) f = absurd f

  idle_a : a.phase ≡ Serving → a.current ≡ None
  idle_a p = none_current a.current (subst (λ p. Fits p a.current) p (t.linked.fits x (stance a.phase a.current) (ap stance_in there)))

  idle_b : b.phase ≡ Serving → b.current ≡ None
  idle_b p = none_current b.current (subst (λ p. Fits p b.current) p (th.linked.fits x (stance b.phase b.current) (ap stance_in there_h)))

  pub for_working : IsWorking g i x → IsFor
  for_working w =
      let same : w.at.leaf ≡ a = some_same (sym w.at.there ∙ there) in
      let thread : thread_by g.root x a.current ≡ i = ap (λ (l : Leaf). thread_by g.root x l.current) (sym same) ∙ w.at.thread in
      record {
        active = λ b. w.at.goes (ap (λ (l : Leaf). l.phase) same ∙ b);
        current = λ q at. sym (ap (thread_by g.root x) at) ∙ thread;
        main = λ none busy. own_at u g t x a there none (ap (λ (l : Leaf). has_work l.phase (first_signal l.signals)) (sym same) ∙ w.at.has_work)
            ∙ (sym (ap (thread_by g.root x) none) ∙ thread);
        root_works = by a.current refl thread;
        at = at_works x (works_at g i x w.at);
      }
    where
      by : (current : Option Current) → a.current ≡ current → thread_by g.root x current ≡ i → works g i i ≡ true
      by None e is = ap (works g i) (sym is) ∙ works_at g i x w.at
      by (Some q) e is =
          root_alive q.session is (handled u g t x a.phase q (ap stance_in there ∙ ap (λ o. Some (stance a.phase o)) e)).waiting

  pub for_serving : (p : ServesSame u g h t th i s x) → b.signals ≡ a.signals → IsFor
  for_serving p signals =
      let same : p.first.leaf ≡ a = some_same (sym p.first.there ∙ there) in
      let same_h : p.other.leaf ≡ b = some_same (sym p.other.there ∙ there_h) in
      let phase : a.phase ≡ Serving = ap (λ (l : Leaf). l.phase) (sym same) ∙ p.first.serves in
      let phase_h : b.phase ≡ Serving = ap (λ (l : Leaf). l.phase) (sym same_h) ∙ p.other.serves in
      record {
        active = λ b. serving_blocked (sym phase ∙ b);
        current = λ q at. absurd (fits_serving a.current (subst (λ p. Fits p a.current) phase
            (t.linked.fits x (stance a.phase a.current) (ap stance_in there))) q at);
        main = λ none busy. absurd (busy (phase, ap (λ (l : Leaf). first_signal l.signals) (sym same) ∙ p.first.idle));
        root_works = root_alive p.first.taken.0.session p.first.root (requested u g t i x p.first).waiting;
        at = ap (option_map seen) there_h
            ∙ (ap Some (ap (λ p. seen_by p b) phase_h
            ∙ ((λ j. seen_by Serving (record b {
              signals = signals j;
              current =
                  (idle_b phase_h ∙ sym (ap (option_map (renamed_current f)) (idle_a phase))) j;
            }))
            ∙ ap (λ p. renamed_leaf f (seen_by p a)) (sym phase)))
            ∙ ap (option_map (λ l. renamed_leaf f (seen l))) (sym there));
      }

  -- steps, peaks and inputs are those of the leaf in the other world
  abbrev pub aside : Aside
  aside = record { steps = λ n. suc b.steps; peaks = λ most. b.peaks; inputs = λ given. b.inputs }

  abbrev pub e : Doing
  e = other_doing f aside d h.world

  abbrev pub R : World → World → Type 0
  R = IsRelated f aside d h.world i g.own root other c

  abbrev pub K : World → World → Type 0
  K = IsRelatedWithin f aside d h.world i g.own root other c

  abbrev pub M : ℕ → Type 0
  M = Mine f aside d h.world i g.own root other c

  abbrev pub O : SlotId → Type 0
  O = Ours f aside d h.world i g.own root other c

  abbrev pub d_h : Doing
  d_h = record { system = u; world = h.world; x = x; component = component; leaf = record b { steps = suc b.steps } }

  slots_same : b.slots ≡ map (renamed_slot f) a.slots
  slots_same = some_same (ap (option_map slots_of) (sym there_h) ∙ ((regions (g.own x) (inr refl)).slots x refl
      ∙ ap (option_map (λ l. map (renamed_slot f) (slots_of l))) there))

  -- the step in the other world is that of the leaf with the other names
  going_same : IsAtSame f x g.world h.world → Goes_on a.phase → Goes_on b.phase → step_in d_h b.phase ≡ step_in e a.phase
  going_same at p q = λ j. step_in (record e { leaf = leaf j }) (phase j)
    where
      shown : plain b ≡ renamed_leaf f (plain a)
      shown = sym (seen_plain b q) ∙ (some_same (ap (option_map seen) (sym there_h) ∙ (at ∙ ap (option_map (λ l. renamed_leaf f (seen l))) there))
          ∙ ap (renamed_leaf f) (seen_plain a p))

      leaf : record b { steps = suc b.steps } ≡ e.leaf
      leaf = λ j. record (shown j) { slots = slots_same j; peaks = b.peaks; steps = suc b.steps; inputs = b.inputs }

      phase : b.phase ≡ a.phase
      phase = ap (λ (l : Leaf). l.phase) shown

  -- a signal is taken in both
  signal_same : IsAtSame f x g.world h.world → a.phase ≡ Serving → b.phase ≡ Serving → is_some (first_signal a.signals) ≡ true
      → step_in d_h b.phase ≡ step_in e a.phase
  signal_same at p q flag =
      ap (step_in d_h) q
      ∙ (ap (λ s. serve d_h (first_signal s)) signals ∙ (by (first_signal a.signals) flag ∙ ap (step_in e) (sym p)))
    where
      shown : seen_by Serving b ≡ renamed_leaf f (seen_by Serving a)
      shown = ap (λ p. seen_by p b) (sym q) ∙ (some_same (ap (option_map seen) (sym there_h) ∙ (at ∙ ap (option_map (λ l. renamed_leaf f (seen l))) there))
          ∙ ap (λ p. renamed_leaf f (seen_by p a)) p)

      signals : b.signals ≡ a.signals
      signals = ap (λ (l : Leaf). l.signals) shown

      by : (s : Option (ℕ × List Signal)) → is_some s ≡ true → serve d_h s ≡ serve e s
      by None flag = absurd (true≢false (sym flag))
      by (Some s) flag = signal_leaf e (record b { steps = suc b.steps }) s slots_same refl refl refl
          (idle_b q ∙ sym (ap (option_map (renamed_current f)) (idle_a p)))

  working_same : IsAtSame f x g.world h.world → Steps a → Steps b → step_in d_h b.phase ≡ step_in e a.phase
  working_same at (inl p) (inl q) = going_same at p q
  working_same at (inr p) (inr q) = signal_same at p.0 q.0 p.1
  working_same at (inl p) (inr q) = absurd (unlike p (phase_of (ap (λ p. seen_by p b) (sym q.0) ∙ shown)))
    where
      shown : seen b ≡ renamed_leaf f (seen a)
      shown = some_same (ap (option_map seen) (sym there_h) ∙ (at ∙ ap (option_map (λ l. renamed_leaf f (seen l))) there))

      phase_of : seen_by Serving b ≡ renamed_leaf f (seen a) → (seen a).phase ≡ Serving
      phase_of e = ap (λ (l : Leaf). l.phase) (sym e)

      unlike : Goes_on a.phase → (seen a).phase ≡ Serving → ⊥
      unlike (inl r) e = serving_running (sym (ap (λ p. (seen_by p a).phase) r) ∙ e)
      unlike (inr r) e = serving_handling (sym (ap (λ p. (seen_by p a).phase) r) ∙ e)
  working_same at (inr p) (inl q) = absurd (unlike q (ap (λ (l : Leaf). l.phase) (shown ∙ ap (λ p. renamed_leaf f (seen_by p a)) p.0)))
    where
      shown : seen b ≡ renamed_leaf f (seen a)
      shown = some_same (ap (option_map seen) (sym there_h) ∙ (at ∙ ap (option_map (λ l. renamed_leaf f (seen l))) there))

      unlike : Goes_on b.phase → (seen b).phase ≡ Serving → ⊥
      unlike (inl r) e = serving_running (sym (ap (λ p. (seen_by p b).phase) r) ∙ e)
      unlike (inr r) e = serving_handling (sym (ap (λ p. (seen_by p b).phase) r) ∙ e)

  -- a request is
  serving_same : a.phase ≡ Serving → b.phase ≡ Serving → first_signal b.signals ≡ None → b.signals ≡ a.signals → b.reacting ≡ a.reacting
      → step_in d_h b.phase ≡ step_in e a.phase
  serving_same p q idle signals reacting =
      ap (step_in d_h) q
      ∙ (ap (serve d_h) idle
      ∙ (accept_leaf e (record b { steps = suc b.steps }) (oldest h.world x h.world.requests) slots_same refl refl refl reacting signals
      ∙ (ap (serve e) (sym (ap first_signal (sym signals) ∙ idle)) ∙ ap (step_in e) (sym p))))

  next_here : slice_get u.components x ≡ Some component → next u g.world x ≡ step_in d a.phase
  next_here placed = λ j. step_of u g.world x (placed j) (there j)

  next_there : slice_get u.components x ≡ Some component → next u h.world x ≡ step_in d_h b.phase
  next_there placed = λ j. step_of u h.world x (placed j) (there_h j)

  -- the step is allowed, and leads to worlds that are related
  pub record Goes (new : World) (event : Event) : Type 0 where
    pub other_new : World
    pub goes : next u h.world x ≡ Ok (other_new, event)
    pub related : R new other_new

  run : (o : IsFor) → slice_get u.components x ≡ Some component → ((a.phase ≡ Serving → ⊥) → FirstAllowed f aside d h.world K R M O a.todo)
      → step_in d_h b.phase ≡ step_in e a.phase
      → (Accepts a → Match f aside d h.world K R M O (oldest g.world x g.world.requests) (oldest h.world x h.world.requests))
      → (Accepts a → (p : Request × List Request) → oldest g.world x g.world.requests ≡ Some p
      → IsOne f aside d h.world i g.own root other c (before o aside) p)
      → (new : World) (event : Event) → next u g.world x ≡ Ok (new, event) → Goes new event
  run o placed allowed same matches ones new event stepped =
      let both = both_step f aside d h.world K R M O (takes o) t.linked
      (kept_around f aside d h.world i g.own root other c (before o aside) matches ones)
      a.phase refl allowed in
      let r = both.holds new event (sym (next_here placed) ∙ stepped) in
      record { other_new = r.0; goes = next_there placed ∙ (same ∙ r.1); related = r.2 }

  steps_accepts : Steps a → Accepts a → ⊥
  steps_accepts (inl (inl p)) e = serving_running (sym p ∙ e.0)
  steps_accepts (inl (inr p)) e = serving_handling (sym p ∙ e.0)
  steps_accepts (inr p) e = true≢false (sym p.1 ∙ ap is_some e.1)

  pub goes_working : IsWorking g i x → IsWorking h i x → slice_get u.components x ≡ Some component
      → ((a.phase ≡ Serving → ⊥) → FirstAllowed f aside d h.world K R M O a.todo)
      → (new : World) (event : Event) → next u g.world x ≡ Ok (new, event) → Goes new event
  goes_working w v placed allowed =
      let o = for_working w in
      let p = subst Steps (some_same (sym w.at.there ∙ there)) w.runs in
      let q = subst Steps (some_same (sym v.at.there ∙ there_h)) v.runs in
      run o placed allowed (working_same o.at p q) (λ e. absurd (steps_accepts p e)) (λ e. absurd (steps_accepts p e))

  pub goes_serving : ServesSame u g h t th i s x → b.signals ≡ a.signals → b.reacting ≡ a.reacting → slice_get u.components x ≡ Some component
      → ((a.phase ≡ Serving → ⊥) → FirstAllowed f aside d h.world K R M O a.todo)
      → (new : World) (event : Event) → next u g.world x ≡ Ok (new, event) → Goes new event
  goes_serving w signals reacting placed allowed =
      run (for_serving w signals) placed allowed
      (serving_same phase (ap (λ (l : Leaf). l.phase) (sym (some_same (sym w.other.there ∙ there_h))) ∙ w.other.serves)
      (ap (λ (l : Leaf). first_signal l.signals) (sym (some_same (sym w.other.there ∙ there_h))) ∙ w.other.idle) signals reacting)
      (λ e. subst (λ o. Match f aside d h.world K R M O o (oldest h.world x h.world.requests)) (sym w.first.found)
      (subst (λ o. Match f aside d h.world K R M O (Some w.first.taken) o) (sym w.other.found) taken))
      (λ e p found.
      let is : w.first.taken ≡ p = some_same (sym w.first.found ∙ found) in
      record {
        ours = ap (λ (p : Request × List Request). root p.0.session) (sym is) ∙ root_is;
        one = w.first.taken.0;
        alone = among_root ∙ w.one;
      })
    where
      phase : a.phase ≡ Serving
      phase = ap (λ (l : Leaf). l.phase) (sym (some_same (sym w.first.there ∙ there))) ∙ w.first.serves

      idle : first_signal a.signals ≡ None
      idle = ap (λ (l : Leaf). first_signal l.signals) (sym (some_same (sym w.first.there ∙ there))) ∙ w.first.idle

      k : ℕ
      k = w.first.taken.0.session

      m : (s : Session) × (session_at g.world k ≡ Some s) × (s.server ≡ x)
      m = taken_there u g t i x w.first

      root_is : root k ≡ i
      root_is = anew_else g.root k0 i k (not_free g.world k m.0 m.1) ∙ w.first.root

      taken : AreTaken f aside d h.world K R M O w.first.taken w.other.taken
      taken = record {
        serves = (phase, idle);
        first = w.first.found;
        other = w.other.found;
        same = w.same ∙ ap (λ n. record { session = n; ask = w.first.taken.0.ask })
            (sym (anew_else names.f k0 m0 k (not_free g.world k m.0 m.1) ∙ names.own k w.first.root));
        mine = (inl root_is, (m.0, m.1));
        session = m.0;
        there = m.1;
      }

      among_root : among root i g.world.requests ≡ among g.root i g.world.requests
      among_root = by g.world.requests (each_asked g.world (λ k. root k ≡ g.root k)
          (λ k s there. anew_else g.root k0 i k (not_free g.world k s there)) g.world.requests t.linked.asked)
        where
          by : (rs : List Request) → Each (λ r. root r.session ≡ g.root r.session) rs → among root i rs ≡ among g.root i rs
          by [] each = refl
          by (r ∷ rs) each = λ j. cond (each.0 j == i) (r ∷ by rs each.1 j) (by rs each.1 j)
