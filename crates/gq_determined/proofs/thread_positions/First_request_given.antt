-- A leaf that is not shared takes its first request: from then on it is of the thread that asks, with all that was its. No other thread sees that.
use Rattle.std.proofs.Common.{◌≡◌, ◌≢◌, ◌⊎◌, ℕ, ◌==◌, ◌&&◌, inl, inr, true, false, cond, List, [], ◌∷◌, map, Option, Some, None}
use Rattle.std.proofs.Common.{refl, ap, sym, ◌∙◌, subst, arith}
use Rattle.std.specs.Prelude.{slice_get}
use Rattle.std.proofs.lemmas.Bool.{true≢false}
use Rattle.std.proofs.lemmas.Bool.Decides.{eqb_tells}
use Rattle.gq_model.specs.declared.phase.Phase.{Phase}
use Rattle.gq_model.specs.declared.phase.Phase.TheVariants.{Running, Blocked, Serving, Handling}
use Rattle.gq_model.specs.machine.Scenario.{System}
use Rattle.gq_model.specs.machine.Step.{oldest, first_signal}
use Rattle.std.specs.Prelude.{is_some}
use Rattle.gq_model.specs.machine.World.{Waiting, SlotId, In_leaf, In_session, In_object, Session, Request, Current, Leaf, World, session_at, slot_at}
use Rattle.gq_model.proofs.Small_facts.{none_some, some_same, equal_self}
use Rattle.gq_laws.specs.Shapes.{Each}
use Rattle.gq_laws.specs.Session_links.{Fits, one_if, requests_of, stance, stance_in, links}
use Rattle.gq_laws.proofs.session_links.Asked_request_changes.{same_current, same_phase}
use Rattle.gq_laws.specs.Renamed.{renamed_request}
use Rattle.gq_laws.specs.internal.Corresponding.{Correspond}
use Rattle.gq_determined.specs.internal.Threads.{is_unshared, Starts, Tracked, thread_by, who, who_of, who_by, asker, moved, given}
use Rattle.gq_determined.specs.internal.Threads.{Accepts, has_work, served_for, works, works_for, is_active, within, among, IsSameThread}
use Rattle.gq_determined.proofs.thread_positions.Single_thread_position.{root_at, IsOpened, AreOpened, IsUnder, AreOwned, IsByCurrent, IsPlaced, IsTracked}
use Rattle.gq_determined.proofs.thread_positions.Single_thread_position.{IsWaiting, IsHandled, handled}
use Rattle.gq_determined.proofs.thread_positions.Single_thread_position.{root_waits}
use Rattle.gq_determined.proofs.thread_positions.Unshared_leaf_owner.{one_start}
use Rattle.gq_determined.proofs.thread_positions.Turn_thread_position.{Goes_on, Steps, IsWorking, IsServing, who_is, taken_there, requested, requested_by}

-- NUMBERS THAT MOVE

pub moved_here : (x i : ℕ) (f : ℕ → ℕ) (k : ℕ) → f k ≡ x → moved true x i f k ≡ i
moved_here x i f k e = ap (λ b. cond b i (f k)) (ap (λ m. m == x) e ∙ equal_self x)

pub moved_else : (x i : ℕ) (f : ℕ → ℕ) (k : ℕ) → f k ≢ x → moved true x i f k ≡ f k
moved_else x i f k ne = elim (eqb_tells (f k) x) [ inl q ↦ absurd (ne q.1) | inr q ↦ ap (λ b. cond b i (f k)) q.0 ]

moved_both : (x i : ℕ) (f h : ℕ → ℕ) (j k : ℕ) → f j ≡ h k → moved true x i f j ≡ moved true x i h k
moved_both x i f h j k e = ap (λ m. cond (m == x) i m) e

-- what is neither moved nor where it is moved to is reported as before
moved_test : (x i j : ℕ) (f : ℕ → ℕ) (k : ℕ) → i ≢ j → x ≢ j → (moved true x i f k == j) ≡ (f k == j)
moved_test x i j f k ne nx = elim (eqb_tells (f k) x) [
  | inl q ↦ ap (λ m. m == j) (moved_here x i f k q.1) ∙ (out i ne ∙ sym (ap (λ m. m == j) q.1 ∙ out x nx))
  | inr q ↦ ap (λ m. m == j) (moved_else x i f k q.1)
]
  where
    out : (m : ℕ) → m ≢ j → (m == j) ≡ false
    out m ne = elim (eqb_tells m j) [ inl q ↦ absurd (ne q.1) | inr q ↦ q.0 ]

pub equal_of : (m n : ℕ) → (m == n) ≡ true → m ≡ n
equal_of m n e = elim (eqb_tells m n) [ inl q ↦ q.1 | inr q ↦ absurd (true≢false (sym e ∙ q.0)) ]

pub unequal : (m n : ℕ) → m ≢ n → (m == n) ≡ false
unequal m n ne = elim (eqb_tells m n) [ inl q ↦ absurd (ne q.1) | inr q ↦ q.0 ]

serving_blocked : Serving ≡ Blocked → ⊥
serving_blocked e = cc

serving_inactive : (p : Phase) → p ≡ Serving → is_active p ≡ true → ⊥
serving_inactive p e act = true≢false (sym act ∙ ap is_active e)

-- what waits is not of the thread of a leaf that serves
pub not_rooted : (u : System) (g : Tracked) (t : IsPlaced u g) (x : ℕ) (current : Option Current) → (links g.world).stances x ≡ Some (stance Serving current)
    → (j : ℕ) → IsWaiting u g t j → g.root j ≢ x
not_rooted u g t x current stood j a e =
    serving_blocked (same_phase (sym stood ∙ (ap (links g.world).stances (sym e) ∙ root_waits u g t j a)))

pub serving_else : (u : System) (g : Tracked) (t : IsPlaced u g) (i x : ℕ) → IsServing g i x → x ≢ i
serving_else u g t i x p e =
    not_rooted u g t x p.leaf.current (ap stance_in p.there ∙ ap (λ q. Some (stance q p.leaf.current)) p.serves) p.taken.0.session
    (requested u g t i x p).waiting (p.root ∙ sym e)

pub working_serving : (p : Phase) → Goes_on p → p ≡ Serving → ⊥
working_serving p (inl e) f = running_serving (sym e ∙ f)
  where
    running_serving : Running ≡ Serving → ⊥
    running_serving e = cc
working_serving p (inr e) f = handling_serving (sym e ∙ f)
  where
    handling_serving : Handling ≡ Serving → ⊥
    handling_serving e = cc

-- a leaf that takes a step otherwise accepts no request
pub working_accepts : (l : Leaf) → Steps l → Accepts l → ⊥
working_accepts l (inl e) a = working_serving l.phase e a.0
working_accepts l (inr e) a = true≢false (sym e.1 ∙ ap is_some a.1)

-- a leaf that accepts a request next and takes a step takes it
pub serving_who : (g : Tracked) (i x : ℕ) → who g x ≡ Some i → (leaf : Leaf) → slice_get g.world.leaves x ≡ Some leaf → Accepts leaf
    → IsServing g i x
serving_who g i x is leaf there accepts = by (who_is g i x is)
  where
    by : IsWorking g i x ⊎ IsServing g i x → IsServing g i x
    by (inl w) = absurd (working_accepts w.at.leaf w.runs (subst Accepts (some_same (sym there ∙ w.at.there)) accepts))
    by (inr p) = p

-- ONE WORLD

-- a leaf that is its own takes a request, which is of the thread
pub record IsGiven (u : System) (g : Tracked) (i x : ℕ) : Type 0 where
  pub serving : IsServing g i x
  pub idle : g.own x ≡ x

module _ (u : System) (g : Tracked) (t : IsPlaced u g) (i x : ℕ) (b : IsGiven u g i x) where
  abbrev pub g_new : Tracked
  g_new = given g x i true

  abbrev w : World
  w = g.world

  abbrev k : ℕ
  k = b.serving.taken.0.session

  there : (s : Session) × (session_at w k ≡ Some s) × (s.server ≡ x)
  there = taken_there u g t i x b.serving

  stood : (links w).stances x ≡ Some (stance Serving b.serving.leaf.current)
  stood = ap stance_in b.serving.there ∙ ap (λ p. Some (stance p b.serving.leaf.current)) b.serving.serves

  -- what waits is not of the thread of the leaf
  pub not_root : (j : ℕ) → IsWaiting u g t j → g.root j ≢ x
  not_root j a = not_rooted u g t x b.serving.leaf.current stood j a

  pub x_else : x ≢ i
  x_else = serving_else u g t i x b.serving

  pub lives : g.own i ≡ i
  lives = subst (λ m. g.own m ≡ m) b.serving.root (t.lives k there.0 there.1)

  pub own_x : g.own x ≡ x
  own_x = b.idle

  pub i_else : g.own i ≢ x
  i_else e = x_else (sym e ∙ lives)

  -- SESSIONS AND REQUESTS THAT WAIT

  same_root : (j : ℕ) → IsWaiting u g t j → g_new.root j ≡ g.root j
  same_root j a = moved_else x i g.root j (not_root j a)

  same_thread : (y : ℕ) (phase : Phase) (current : Option Current) → (links w).stances y ≡ Some (stance phase current)
      → thread_by g_new.root y current ≡ thread_by g.root y current
  same_thread y phase None at = refl
  same_thread y phase (Some q) at = same_root q.session (handled u g t y phase q at).waiting

  pub same_works : (j y : ℕ) → works g_new j y ≡ works g j y
  same_works j y = by (slice_get w.leaves y) refl
    where
      by : (o : Option Leaf) → slice_get w.leaves y ≡ o → works_for g_new.root j y o ≡ works_for g.root j y o
      by None e = refl
      by (Some l) e = ap (λ m. has_work l.phase (first_signal l.signals) && (m == j)) (same_thread y l.phase l.current (ap stance_in e))

  each_root : (rs : List Request) → ((r : Request) → (requests_of r.session rs ≡ 0 → ⊥) → (requests_of r.session w.requests ≡ 0 → ⊥))
      → Each (λ r. g_new.root r.session ≡ g.root r.session) rs
  each_root [] sub = tt
  each_root (r ∷ rs) sub = (
    same_root r.session (requested_by u g t r.session (sub r (λ none.
        (let one : one_if (r.session == r.session) ≡ 1 = ap one_if (equal_self r.session) in omega (arith, none, one))))).waiting,
    each_root rs (λ q more. sub q (λ none. more (omega (arith, none)))),
  )

  pub same_among : (j : ℕ) → among g_new.root j w.requests ≡ among g.root j w.requests
  same_among j = by w.requests (each_root w.requests (λ r more. more))
    where
      by : (rs : List Request) → Each (λ r. g_new.root r.session ≡ g.root r.session) rs → among g_new.root j rs ≡ among g.root j rs
      by [] each = refl
      by (r ∷ rs) each = λ e. cond (each.0 e == j) (r ∷ by rs each.1 e) (by rs each.1 e)

  pub who_same : who g_new x ≡ Some i
  who_same =
      ap (who_of g_new x) b.serving.there
      ∙ (ap (who_by g_new x b.serving.leaf.current b.serving.leaf.signals) b.serving.serves
      ∙ (ap (λ s. served_for g_new.root (thread_by g_new.root x b.serving.leaf.current) s (oldest g.world x g.world.requests)) b.serving.idle
      ∙ ap (asker g_new.root) b.serving.found ∙ ap Some (same_root k (requested u g t i x b.serving).waiting ∙ b.serving.root)))

  -- WHAT IS TRACKED FITS

  pub own_new : g_new.own x ≡ i
  own_new = moved_here x i g.own x own_x

  pub own_else : g_new.own x ≢ x
  own_else e = x_else (sym e ∙ own_new)

  pub root_new : (q : SlotId) → root_at g_new.own g_new.root q ≡ moved true x i (λ m. m) (root_at g.own g.root q)
  root_new (In_leaf y a) = refl
  root_new (In_session m a) = refl
  root_new (In_object m) = refl

  below_new : (j : ℕ) (s : Session) → session_at w j ≡ Some s → g_new.root j ≡ root_at g_new.own g_new.root s.slot_id
  below_new j s at = ap (moved true x i (λ m. m)) (t.below j s at) ∙ sym (root_new s.slot_id)

  lives_new : (j : ℕ) (s : Session) → session_at w j ≡ Some s → g_new.own (g_new.root j) ≡ g_new.root j
  lives_new j s at = elim (eqb_tells (g.root j) x) [
    | inl q ↦
        let is = moved_here x i g.root j q.1 in
        ap g_new.own is ∙ (moved_else x i g.own i i_else ∙ (lives ∙ sym is))
    | inr q ↦
        let is = moved_else x i g.root j q.1 in
        ap g_new.own is ∙ (moved_else x i g.own (g.root j) (λ f. q.1 (sym (t.lives j s at) ∙ f)) ∙ (t.lives j s at ∙ sym is))
  ]

  main_new : (y : ℕ) (phase : Phase) → (links w).stances y ≡ Some (stance phase None) → is_active phase ≡ true → g_new.own y ≡ y
  main_new y phase at act =
      let own = t.main y phase at act in
      moved_else x i g.own y (λ f. serving_inactive phase
      (same_phase (sym at ∙ (ap (links w).stances (sym own ∙ f) ∙ stood))) act) ∙ own

  waits_new : (q : SlotId) (m : ℕ) → slot_at w q ≡ Some (Waiting m) → IsByCurrent g_new.own w q
  waits_new (In_leaf y a) m at = λ phase current is own. elim (eqb_tells (g.own y) x) [
    | inl q ↦ absurd (i_else (ap g.own (sym (moved_here x i g.own y q.1) ∙ own) ∙ q.1))
    | inr q ↦ t.waits (In_leaf y a) m at phase current is (sym (moved_else x i g.own y q.1) ∙ own)
  ]
  waits_new (In_session j a) m at = t.waits (In_session j a) m at
  waits_new (In_object j) m at = tt

  no_current : (current : Option Current) → Fits Serving current → (q : Current) → current ≡ Some q → ⊥
  no_current None f q e = none_some e
  no_current (Some p) f q e = absurd f

  held_new : (y : ℕ) (phase : Phase) (q : Current) → (links w).stances y ≡ Some (stance phase (Some q)) → g_new.own y ≢ y → g_new.own y ≡ g_new.root q.session
  held_new y phase q at ne = by (eqb_tells (g.own y) x)
    where
      a : IsHandled u g t y q
      a = handled u g t y phase q at

      -- a leaf that serves has no current session
      idle : y ≡ x → ⊥
      idle e = no_current b.serving.leaf.current (t.linked.fits x (stance Serving b.serving.leaf.current) stood) q
          (same_current (sym stood ∙ (ap (links w).stances (sym e) ∙ at)))

      by : (((g.own y == x) ≡ true) × (g.own y ≡ x)) ⊎ (((g.own y == x) ≡ false) × (g.own y ≢ x)) → g_new.own y ≡ g_new.root q.session
      by (inl p) = absurd (not_root q.session a.waiting (sym (t.held y phase q at (λ own. idle (sym own ∙ p.1))) ∙ p.1))
      by (inr p) =
          let same = moved_else x i g.own y p.1 in
          same ∙ (t.held y phase q at (λ own. ne (same ∙ own)) ∙ sym (same_root q.session a.waiting))

  signals_new : (y : ℕ) (l : Leaf) → slice_get w.leaves y ≡ Some l → is_some (first_signal l.signals) ≡ true → (g_new.own y ≡ y) × (l.current ≡ None)
  signals_new y l at flag =
      let was = t.signals y l at flag in
      (moved_else x i g.own y (λ e. idle (sym was.0 ∙ e)) ∙ was.0, was.1)
    where
      -- a leaf that takes a request has no signal to take
      idle : y ≡ x → ⊥
      idle e =
          let same : l ≡ b.serving.leaf = some_same (sym at ∙ (ap (slice_get w.leaves) e ∙ b.serving.there)) in
          true≢false (sym flag ∙ ap (λ (l : Leaf). is_some (first_signal l.signals)) same ∙ ap is_some b.serving.idle)

  pub given_placed : IsPlaced u g_new
  given_placed = record {
    acyclic = t.acyclic;
    linked = t.linked;
    below = below_new;
    waits = waits_new;
    uses = t.uses;
    lives = lives_new;
    main = main_new;
    held = held_new;
    signals = signals_new;
  }

  -- a leaf that is the thread's was so, or was of the leaf's thread
  pub own_from : (y : ℕ) → g_new.own y ≡ i → (g.own y ≡ i) ⊎ (g.own y ≡ x)
  own_from y e = elim (eqb_tells (g.own y) x) [ inl q ↦ inr q.1 | inr q ↦ inl (sym (moved_else x i g.own y q.1) ∙ e) ]

  -- a leaf that is its own no more is the one that takes the request
  pub own_moves : (y : ℕ) → g.own y ≡ y → g_new.own y ≢ y → y ≡ x
  own_moves y own ne = elim (eqb_tells (g.own y) x) [ inl q ↦ sym own ∙ q.1 | inr q ↦ absurd (ne (moved_else x i g.own y q.1 ∙ own)) ]

  -- what is a thread's stays so while it has its own leaf
  pub own_stays : (y : ℕ) → g_new.own (g.own y) ≡ g.own y → g_new.own y ≡ g.own y
  own_stays y own = moved_else x i g.own y (λ e. own_else (ap g_new.own (sym e) ∙ (own ∙ e)))

  -- ANOTHER THREAD

  pub own_else_back : (j y : ℕ) → j ≢ i → g_new.own y ≡ j → g.own y ≡ j
  own_else_back j y ne e = elim (eqb_tells (g.own y) x) [
    | inl q ↦ absurd (ne (sym e ∙ moved_here x i g.own y q.1))
    | inr q ↦ sym (moved_else x i g.own y q.1) ∙ e
  ]

  module _ (j : ℕ) (ne : j ≢ i) (nx : j ≢ x) where
    own_test : (y : ℕ) → (g_new.own y == j) ≡ (g.own y == j)
    own_test y = moved_test x i j g.own y (λ e. ne (sym e)) (λ e. nx (sym e))

    owned_back : (y : ℕ) → g_new.own y ≡ j → g.own y ≡ j
    owned_back y is = equal_of (g.own y) j (sym (own_test y) ∙ (ap (λ m. m == j) is ∙ equal_self j))

    within_same : within g_new.root j w.sessions ≡ within g.root j w.sessions
    within_same = λ e k. cond (moved_test x i j g.root k (λ e. ne (sym e)) (λ e. nx (sym e)) e) (session_at w k) None

    pub given_left : (h : Tracked) → IsSameThread j g h → IsSameThread j g_new h
    given_left h s = record {
      f = s.f;
      owned = λ y. own_test y ∙ s.owned y;
      leaves = λ y. same_works j y ∙ s.leaves y;
      alike = λ y is. s.alike y (sym (same_works j y) ∙ is);
      region = record {
        slots = λ y is. s.region.slots y (owned_back y is);
        sessions = subst (λ a. Correspond s.f a (within h.root j h.world.sessions)) (sym within_same) s.region.sessions;
        requests = s.region.requests ∙ ap (map (renamed_request s.f)) (sym (same_among j));
      };
      wrote = λ y is. s.wrote y (owned_back y is);
    }

    pub given_right : (h : Tracked) → IsSameThread j h g → IsSameThread j h g_new
    given_right h s = record {
      f = s.f;
      owned = λ y. s.owned y ∙ sym (own_test y);
      leaves = λ y. s.leaves y ∙ sym (same_works j y);
      alike = s.alike;
      region = record {
        slots = s.region.slots;
        sessions = subst (λ a. Correspond s.f (within h.root j h.world.sessions) a) (sym within_same) s.region.sessions;
        requests = same_among j ∙ s.region.requests;
      };
      wrote = s.wrote;
    }

-- A LEAF THAT IS NOT SHARED

-- so far it is its own
pub own_idle : (u : System) (g : Tracked) (t : IsTracked u g) (i x : ℕ) → IsServing g i x → is_unshared u x ≡ true → g.own x ≢ i → g.own x ≡ x
own_idle u g t i x p single other = elim (eqb_tells (g.own x) x) [
  | inl q ↦ q.1
  | inr q ↦
      let there = taken_there u g t.placed i x p in
      let asked = t.stands p.taken.0.session there.0 there.1 in
      let starts = subst (Starts u asked.n asked.z) there.2 asked.starts in
      let owner_is : g.own asked.z ≡ i = sym asked.is ∙ (sym (t.placed.below p.taken.0.session there.0 there.1) ∙ p.root) in
      let under = t.owned.opened x q.1 in
      absurd (other (under.is ∙ (ap g.own (one_start u x single under.n asked.n under.z asked.z under.starts starts) ∙ owner_is)))
]

module _ (u : System) (g : Tracked) (t : IsTracked u g) (i x : ℕ) (b : IsGiven u g i x) (single : is_unshared u x ≡ true) where
  abbrev new : Tracked
  new = given g x i true

  abbrev there_s : (s : Session) × (session_at g.world b.serving.taken.0.session ≡ Some s) × (s.server ≡ x)
  there_s = taken_there u g t.placed i x b.serving

  -- whoever sessions with it are opened for is of the thread
  asked : IsOpened u g.own g.root there_s.0.slot_id there_s.0.client there_s.0.server
  asked = t.stands b.serving.taken.0.session there_s.0 there_s.1

  starts : Starts u asked.n asked.z x
  starts = subst (Starts u asked.n asked.z) there_s.2 asked.starts

  owner_is : g.own asked.z ≡ i
  owner_is = sym asked.is ∙ (sym (t.placed.below b.serving.taken.0.session there_s.0 there_s.1) ∙ b.serving.root)

  owner_else : g.own asked.z ≢ x
  owner_else e = x_else u g t.placed i x b (sym e ∙ owner_is)

  stands_new : AreOpened u new.own new.root g.world
  stands_new j s at =
      let o = t.stands j s at in
      record { uses = o.uses; n = o.n; z = o.z; starts = o.starts; is = root_new u g t.placed i x b s.slot_id ∙ ap (moved true x i (λ m. m)) o.is }

  owned_new : AreOwned u new.own
  owned_new = record { opened = opened_new; whole = whole }
    where
      here : IsUnder u new.own x
      here = record {
        single = single;
        n = asked.n;
        z = asked.z;
        starts = starts;
        is = own_new u g t.placed i x b ∙ sym (moved_else x i g.own asked.z owner_else ∙ owner_is);
      }

      opened_new : (y : ℕ) → new.own y ≢ y → IsUnder u new.own y
      opened_new y ne = elim (eqb_tells (g.own y) y) [
        | inl q ↦ elim (eqb_tells y x) [
          | inl e ↦ subst (IsUnder u new.own) (sym e.1) here
          | inr e ↦ absurd (ne (moved_else x i g.own y (λ f. e.1 (sym q.1 ∙ f)) ∙ q.1))
        ]
        | inr q ↦
            let o = t.owned.opened y q.1 in
            record { single = o.single; n = o.n; z = o.z; starts = o.starts; is = moved_both x i g.own g.own y o.z o.is }
      ]

      whole : (y : ℕ) → new.own (new.own y) ≡ new.own y
      whole y = elim (eqb_tells (g.own y) x) [
        | inl q ↦
            let is = moved_here x i g.own y q.1 in
            ap new.own is ∙ (moved_else x i g.own i (i_else u g t.placed i x b) ∙ (lives u g t.placed i x b ∙ sym is))
        | inr q ↦
            let is = moved_else x i g.own y q.1 in
            ap new.own is ∙ (moved_else x i g.own (g.own y) (λ f. q.1 (sym (t.owned.whole y) ∙ f)) ∙ (t.owned.whole y ∙ sym is))
      ]

  busy_new : (y : ℕ) (phase : Phase) (q : Current) → (links g.world).stances y ≡ Some (stance phase (Some q)) → is_unshared u y ≡ true → new.own y ≢ y
  busy_new y phase q at single e = elim (eqb_tells (g.own y) x) [
    | inl f ↦ i_else u g t.placed i x b (ap g.own (sym (sym e ∙ moved_here x i g.own y f.1)) ∙ f.1)
    | inr f ↦ t.busy y phase q at single (sym (moved_else x i g.own y f.1) ∙ e)
  ]

  pub given_tracked : IsTracked u new
  given_tracked = record { placed = given_placed u g t.placed i x b; stands = stands_new; owned = owned_new; busy = busy_new }
