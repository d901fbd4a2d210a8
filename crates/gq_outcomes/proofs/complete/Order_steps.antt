-- A step of a thread adds its request to the order of a server, or takes its oldest one off.
use Rattle.std.proofs.Common.{◌≡◌, ◌≢◌, ◌⊎◌, inl, inr, ℕ, suc, ◌==◌, ◌&&◌, ◌||◌, Bool, true, false, cond, ◌++◌, List, [], ◌∷◌, Some}
use Rattle.std.proofs.Common.{refl, ap, sym, ◌∙◌, subst, arith}
use Rattle.std.specs.Prelude.{slice_get}
use Rattle.std.proofs.lemmas.Bool.{true≢false}
use Rattle.std.proofs.lemmas.List.{append-nil}
use Rattle.gq_model.specs.declared.phase.Phase.TheVariants.{Running, Serving, Handling}
use Rattle.gq_model.specs.declared.program.Instruction.{Instruction}
use Rattle.gq_model.specs.machine.Doing.{Doing}
use Rattle.gq_model.specs.machine.Requests.{free_place}
use Rattle.gq_model.specs.machine.Scenario.{Component, Scenario, System, system}
use Rattle.gq_model.specs.machine.Step.{accept, accept_oldest, is_to, serve, step_in, step_of}
use Rattle.gq_model.specs.machine.World.{Session, Request, Leaf, World, session_at}
use Rattle.gq_model.proofs.Small_facts.{some_same, equal_self}
use Rattle.gq_laws.specs.Shapes.{Each}
use Rattle.gq_laws.specs.Session_links.{IsAsked, links, one_if, outline, requests_of, stance, stance_in}
use Rattle.gq_laws.specs.Sound_scenarios.{IsSound}
use Rattle.gq_laws.specs.internal.Uncounted.{uncounted}
use Rattle.gq_laws.proofs.Outside_step_untouched.{outlined}
use Rattle.gq_laws.proofs.step_shapes.Step_end_shapes.{Ends}
use Rattle.gq_laws.proofs.step_shapes.Step_change_shapes.{accept_by}
use Rattle.gq_determined.specs.internal.Threads.{Tracked, among, anew, moved, who, works}
use Rattle.gq_determined.proofs.regions.Outside_region_kept.{Asks, IsTakenOff, OursBy}
use Rattle.gq_determined.proofs.regions.Related_around.{none_left}
use Rattle.gq_determined.proofs.thread_positions.Single_thread_position.{IsPlaced, IsWaiting, IsRequested}
use Rattle.gq_determined.proofs.thread_positions.Turn_thread_position.{IsServing, IsWorking, at_asked, one_request, requested_by, who_is}
use Rattle.gq_determined.proofs.thread_positions.First_request_given.{moved_else, not_rooted, working_serving}
use Rattle.gq_determined.proofs.thread_runs.Remaining_section_statements.{AreSections, Lefts}
use Rattle.gq_determined.proofs.thread_steps.Own_steps.{anew_else, not_free}
use Rattle.gq_outcomes.proofs.complete.Held_worlds.{AreQuiet, Held, after, active_in, is_serving, parting, placed2, root_kept, roots, serving_in, taken, view}
use Rattle.gq_outcomes.proofs.complete.Held_steps.{each_request}
use Rattle.gq_outcomes.proofs.complete.Good_worlds.{Good, c, event, later, new, pays, quiet, solo_one, stepped, there_c, uses_new}
use Rattle.gq_outcomes.proofs.complete.Order_of_requests.{SameAsk, among_all, among_more, among_none, asked_of, behind, each_both, each_left, each_map}
use Rattle.gq_outcomes.proofs.complete.Order_of_requests.{each_taken}
use Rattle.gq_outcomes.proofs.complete.Order_of_requests.{oldest_roots, roots_in, roots_more, roots_same, roots_to}
use Rattle.gq_outcomes.proofs.complete.Unsubmitted_signals.{goes_on}

-- the roots of one list are those of another world's
among_same : (root other : ℕ → ℕ) (i : ℕ) (rs : List Request) → Each (λ r. other r.session ≡ root r.session) rs → among other i rs ≡ among root i rs
among_same root other i [] each = refl
among_same root other i (r ∷ rs) each = λ e. cond (each.0 e == i) (r ∷ among_same root other i rs each.1 e) (among_same root other i rs each.1 e)

-- requests that wait
module _ (u : System) (g : Tracked) (t : IsPlaced u g) (P : Request → Type 0) (of : (r : Request) → IsRequested u g t r.session → P r) where
  asked_so : (rs : List Request) → ((r : Request) → (requests_of r.session rs ≡ 0 → ⊥) → (requests_of r.session g.world.requests ≡ 0 → ⊥)) → Each P rs
  asked_so [] sub = tt
  asked_so (r ∷ rs) sub = (
    of r (requested_by u g t r.session (sub r (λ none.
        (let one : one_if (r.session == r.session) ≡ 1 = ap one_if (equal_self r.session) in omega (arith, none, one))))),
    asked_so rs (λ q more. sub q (λ none. more (omega (arith, none)))),
  )

  each_asked : Each P g.world.requests
  each_asked = asked_so g.world.requests (λ r more. more)

module _ (s : Scenario) (sound : IsSound s) (holds : ℕ → Bool) (P : ℕ → Component → Bool → Instruction → Type 0)
    (sections : AreSections P (uncounted (system s))) (quiet_of : (w : World) → Lefts P (uncounted (system s)) w → AreQuiet holds w)
    (m : Held) (h : Good s sound holds P sections quiet_of m) (i x : ℕ) (is : who (view m) x ≡ Some i) where
  abbrev u : System
  u = uncounted (system s)

  abbrev q : AreQuiet holds m.world
  q = quiet s sound holds P sections quiet_of m h

  abbrev w2 : World
  w2 = new s sound holds P sections quiet_of m h i x is

  abbrev before : Held
  before = taken holds m x i

  abbrev mid : Held
  mid = after before i w2

  abbrev end : Held
  end = later s sound holds P sections quiet_of m h i x is

  abbrev cc1 : Component
  cc1 = c s sound holds P sections quiet_of m h i x is

  abbrev pl2 : IsPlaced u (view mid)
  pl2 =
      placed2 u holds m h.held q i x is (pays s sound holds P sections quiet_of) cc1 (there_c s sound holds P sections quiet_of m h i x is) w2
      (event s sound holds P sections quiet_of m h i x is) (stepped s sound holds P sections quiet_of m h i x is)
      (uses_new s sound holds P sections quiet_of m h i x is)

  abbrev k0 : ℕ
  k0 = free_place m.world.sessions

  -- a leaf that serves is nobody's thread
  root_before : (k : ℕ) → IsWaiting u (view m) h.held.placed k → (view before).root k ≡ (view m).root k
  root_before k a = by (serving_in (slice_get m.world.leaves x)) refl (holds x)
    where
      moves : IsServing (view m) i x → moved true x i m.hold (m.base k) ≡ m.hold (m.base k)
      moves p = moved_else x i m.hold (m.base k)
          (not_rooted u (view m) h.held.placed x p.leaf.current (ap stance_in p.there ∙ ap (λ f. Some (stance f p.leaf.current)) p.serves) k a)

      serves : serving_in (slice_get m.world.leaves x) ≡ true → IsServing (view m) i x
      serves e = of (who_is (view m) i x is)
        where
          of : IsWorking (view m) i x ⊎ IsServing (view m) i x → IsServing (view m) i x
          of (inr p) = p
          of (inl w) = absurd (true≢false (sym e ∙ (ap serving_in w.at.there
              ∙ elim (goes_on (view m) h.held.calm i x w) [ inl r ↦ ap is_serving r | inr r ↦ ap is_serving r ])))

      by : (b : Bool) → serving_in (slice_get m.world.leaves x) ≡ b → (d : Bool) → moved (b && d) x i m.hold (m.base k) ≡ m.hold (m.base k)
      by false e d = refl
      by true e false = refl
      by true e true = moves (serves e)

  -- a session that waits after the step is whose it was in its midst
  root_after : (k : ℕ) → IsWaiting u (view mid) pl2 k → (view end).root k ≡ before.hold (mid.base k)
  root_after k a = by (active_in (slice_get w2.leaves x)) refl
    where
      by : (b : Bool) → active_in (slice_get w2.leaves x) ≡ b → (parting mid x b).hold (mid.base k) ≡ before.hold (mid.base k)
      by true e = refl
      by false e =
          root_kept u holds m h.held q i x is (pays s sound holds P sections quiet_of) cc1 (there_c s sound holds P sections quiet_of m h i x is) w2
          (event s sound holds P sections quiet_of m h i x is) (stepped s sound holds P sections quiet_of m h i x is)
          (uses_new s sound holds P sections quiet_of m h i x is) e k a

  abbrev root1 : ℕ → ℕ
  root1 = anew (λ k. before.hold (before.base k)) k0 i

  root_path : (k : ℕ) → root1 k ≡ before.hold (mid.base k)
  root_path k =
      ap (λ (f : ℕ → ℕ). f k)
      (roots u holds m h.held q i x is (pays s sound holds P sections quiet_of) cc1 (there_c s sound holds P sections quiet_of m h i x is) w2
      (event s sound holds P sections quiet_of m h i x is) (stepped s sound holds P sections quiet_of m h i x is)
      (uses_new s sound holds P sections quiet_of m h i x is))

  abbrev a0 : Leaf
  a0 = (solo_one s sound holds P sections quiet_of m h i x is).a

  there0 : slice_get m.world.leaves x ≡ Some a0
  there0 = (solo_one s sound holds P sections quiet_of m h i x is).there

  abbrev dd : Doing
  dd = record { system = u; world = m.world; x = x; component = cc1; leaf = record a0 { steps = suc a0.steps } }

  frame : Asks dd i before.hold root1 (λ y. works (view before) i y || y == x) (OursBy dd i before.hold root1) w2.requests
  frame = (solo_one s sound holds P sections quiet_of m h i x is).done.rest.asks

  -- each request that waits now
  abbrev Now : Request → Type 0
  Now r = ((view end).root r.session ≡ root1 r.session)
      × ((r.session ≢ k0) → (z : ℕ) → is_to z (session_at w2 r.session) ≡ is_to z (session_at m.world r.session))

  each_now : Each Now w2.requests
  each_now = each_both _ _ w2.requests
      (each_request u (view mid) pl2 (λ r. (view end).root r.session ≡ root1 r.session)
      (λ k a r e. subst (λ k. (view end).root k ≡ root1 k) (sym e) (root_after k a ∙ sym (root_path k))))
      (servers w2.requests pl2.linked.asked)
    where
      servers : (rs : List Request) → Each (IsAsked (links w2)) rs
          → Each (λ r. (r.session ≢ k0) → (z : ℕ) → is_to z (session_at w2 r.session) ≡ is_to z (session_at m.world r.session)) rs
      servers [] each = tt
      servers (r ∷ rs) each = (of (outlined (session_at w2 r.session) each.0.0 each.0.1), servers rs each.1)
        where
          of : (t : Session) × (session_at w2 r.session ≡ Some t) × (outline t ≡ each.0.0) → (r.session ≢ k0) → (z : ℕ)
              → is_to z (session_at w2 r.session) ≡ is_to z (session_at m.world r.session)
          of t ne z = elim ((solo_one s sound holds P sections quiet_of m h i x is).done.rest.slot_ids r.session t.0 t.1) [
            | inl o ↦ ap (is_to z) t.1 ∙ (ap (λ n. n == z) o.server ∙ sym (ap (is_to z) o.there))
            | inr o ↦ absurd (ne o.free)
          ]

  -- each request that waited before
  abbrev Then : Request → Type 0
  Then r = (r.session ≢ k0) × (root1 r.session ≡ (view m).root r.session)

  each_then : Each Then m.world.requests
  each_then = each_request u (view m) h.held.placed Then (λ k a r e. (
      let ne : r.session ≢ k0 = λ f. not_free m.world k a.session a.there (sym e ∙ f) in
      (ne, anew_else (λ k. before.hold (before.base k)) k0 i r.session ne ∙ subst (λ k. (view before).root k ≡ (view m).root k) (sym e) (root_before k a))))

  -- so those that are left are for the same servers and of the same threads
  left_same : (base more : List Request) → w2.requests ≡ base ++ more → Each Then base
      → Each (SameAsk (view m).root (view end).root m.world w2) base
  left_same base more e then =
      each_map _ _ (λ r p. (p.0.0 ∙ p.1.1, p.0.1 p.1.0)) base
      (each_both Now Then base (each_left Now base more (subst (Each Now) e each_now)).0 then)

  -- what an order becomes
  pub record IsOrdered : Type 0 where
    -- where the leaf takes no request
    pub works_on : ((l : Leaf) → slice_get m.world.leaves x ≡ Some l → l.phase ≡ Serving → ⊥) → (z : ℕ) → roots_to end z ≡ roots_to m z ++ asked_of end i z
    pub else : (z : ℕ) → z ≢ x → roots_to end z ≡ roots_to m z ++ asked_of end i z
    -- where it takes the oldest one
    pub takes : (l : Leaf) → slice_get m.world.leaves x ≡ Some l → l.phase ≡ Serving → roots_to m x ++ asked_of end i x ≡ i ∷ roots_to end x
    pub quiet_then : IsServing (view m) i x → (z : ℕ) → asked_of end i z ≡ []

  module _ (base more : List Request) (e : w2.requests ≡ base ++ more) (then : Each Then base)
      (frames : (y : ℕ) → y ≢ i → among root1 y (base ++ more) ≡ among root1 y base) (none : among (view m).root i base ≡ []) where
    same : Each (SameAsk (view m).root (view end).root m.world w2) base
    same = left_same base more e then

    more_i : Each (λ r. (view end).root r.session ≡ i) more
    more_i = each_map _ _ (λ r p. p.0.0 ∙ p.1) more (each_both Now (λ r. root1 r.session ≡ i) more (each_left Now base more (subst (Each Now) e each_now)).1
        (behind root1 i base more frames))

    asked_is : among (view end).root i w2.requests ≡ more
    asked_is =
        ap (among (view end).root i) e
        ∙ (among_more (view end).root i base more
        ∙ ((λ j. (among_same (view m).root (view end).root i base (each_map _ _ (λ r p. p.0) base same) ∙ none) j
        ++ among_all (view end).root i more more_i j)))

    order_is : (z : ℕ) → roots_to end z ≡ roots_in (view m).root m.world z base ++ asked_of end i z
    order_is z =
        ap (roots_in (view end).root w2 z) e
        ∙ (roots_more (view end).root w2 z base more
        ∙ (λ j. roots_same (view m).root (view end).root m.world w2 z base same j ++ roots_in (view end).root w2 z (sym asked_is j)))

  -- in a step of a leaf that works the thread has no other request
  by_works : IsWorking (view m) i x → IsOrdered
  by_works w = by frame.from
    where
      not_serving : (l : Leaf) → slice_get m.world.leaves x ≡ Some l → l.phase ≡ Serving → ⊥
      not_serving l at e = of (goes_on (view m) h.held.calm i x w)
        where
          phase : w.at.leaf.phase ≡ Serving
          phase = ap (λ (l : Leaf). l.phase) (some_same (sym w.at.there ∙ at)) ∙ e

          running : Running ≡ Serving → ⊥
          running e = cc

          handling : Handling ≡ Serving → ⊥
          handling e = cc

          of : (w.at.leaf.phase ≡ Running) ⊎ (w.at.leaf.phase ≡ Handling) → ⊥
          of (inl r) = running (sym r ∙ phase)
          of (inr r) = handling (sym r ∙ phase)

      none : among (view m).root i m.world.requests ≡ []
      none = among_none (view m).root i m.world.requests (each_asked u (view m) h.held.placed (λ r. (view m).root r.session ≢ i)
          (λ r a. λ is_i. at_asked u (view m) h.held.placed i x r.session w.at a is_i))

      by : (frame.base ≡ m.world.requests) ⊎ IsTakenOff dd i before.hold root1 (λ y. works (view before) i y || y == x)
          (OursBy dd i before.hold root1) frame.base
          → IsOrdered
      by (inr t) = absurd (not_serving a0 there0 t.serves.0)
      by (inl e) =
          let order = order_is frame.base frame.more frame.is (subst (Each Then) (sym e) each_then)
          (λ y ne. ap (among root1 y) (sym frame.is)
          ∙ ((solo_one s sound holds P sections quiet_of m h i x is).done.rest.requests y ne ∙ ap (among root1 y) (sym e)))
          (ap (among (view m).root i) e ∙ none) in
          let all : (z : ℕ) → roots_to end z ≡ roots_to m z ++ asked_of end i z
          = λ z. order z ∙ ap (λ l. roots_in (view m).root m.world z l ++ asked_of end i z) e in
          record {
            works_on = λ busy. all;
            else = λ z ne. all z;
            takes = λ l at e. absurd (not_serving l at e);
            quiet_then = λ p z. absurd (not_serving p.leaf p.there p.serves);
          }

  -- a server takes its oldest request
  by_serves : IsServing (view m) i x → IsOrdered
  by_serves p = record {
    works_on = λ busy. absurd (busy p.leaf p.there p.serves);
    else = λ z ne. order z ∙ ap (λ l. l ++ asked_of end i z) (sym (old.1 z ne));
    takes = λ l at e. ap (λ l. l ++ asked_of end i x) (old.0 ∙ ap (λ n. n ∷ roots_in (view m).root m.world x p.taken.1) p.root)
        ∙ ap (λ l. i ∷ l) (sym (order x));
    quiet_then = λ q z. ap (roots_in (view end).root w2 z) (asked_is p.taken.1 [] (requests ∙ sym (append-nil p.taken.1))
        (each_taken Then m.world x m.world.requests each_then p.taken p.found) (λ y ne. ap (among root1 y) (append-nil p.taken.1))
        (none_left m.world x (view m).root i p.taken one.0 p.found p.root one.1));
  }
    where
      accepts : Ends (λ w. w.requests ≡ p.taken.1)
          (accept (record { system = u; world = m.world; x = x; component = cc1; leaf = record p.leaf { steps = suc p.leaf.steps } }) p.taken.0 p.taken.1)
      accepts = accept_by (λ w. w.requests ≡ p.taken.1)
          (record { system = u; world = m.world; x = x; component = cc1; leaf = record p.leaf { steps = suc p.leaf.steps } }) p.taken.0 p.taken.1
          (λ old there. refl)

      requests : w2.requests ≡ p.taken.1
      requests = accepts.holds w2 (event s sound holds P sections quiet_of m h i x is)
          (sym ((λ j. step_of u m.world x (there_c s sound holds P sections quiet_of m h i x is j) (p.there j))
          ∙ (ap (step_in (record { system = u; world = m.world; x = x; component = cc1; leaf = record p.leaf { steps = suc p.leaf.steps } })) p.serves
          ∙ ap (serve (record { system = u; world = m.world; x = x; component = cc1; leaf = record p.leaf { steps = suc p.leaf.steps } })) p.idle
          ∙ ap (accept_oldest (record { system = u; world = m.world; x = x; component = cc1; leaf = record p.leaf { steps = suc p.leaf.steps } }))
          p.found)) ∙ stepped s sound holds P sections quiet_of m h i x is)

      one : (r : Request) × (among (view m).root i m.world.requests ≡ r ∷ [])
      one = one_request u (view m) h.held.placed i x p

      old : (roots_to m x ≡ (view m).root p.taken.0.session ∷ roots_in (view m).root m.world x p.taken.1)
          × ((z : ℕ) → z ≢ x → roots_to m z ≡ roots_in (view m).root m.world z p.taken.1)
      old = oldest_roots (view m).root m.world x m.world.requests p.taken p.found

      order : (z : ℕ) → roots_to end z ≡ roots_in (view m).root m.world z p.taken.1 ++ asked_of end i z
      order = order_is p.taken.1 [] (requests ∙ sym (append-nil p.taken.1)) (each_taken Then m.world x m.world.requests each_then p.taken p.found)
          (λ y ne. ap (among root1 y) (append-nil p.taken.1)) (none_left m.world x (view m).root i p.taken one.0 p.found p.root one.1)

  -- what the thread asks for is what its leaf has added
  pub asked_new : IsWorking (view m) i x
      → (more : List Request) × (w2.requests ≡ m.world.requests ++ more) × (among (view end).root i w2.requests ≡ more)
  asked_new w = by frame.from
    where
      none : among (view m).root i m.world.requests ≡ []
      none = among_none (view m).root i m.world.requests (each_asked u (view m) h.held.placed (λ r. (view m).root r.session ≢ i)
          (λ r a. λ is_i. at_asked u (view m) h.held.placed i x r.session w.at a is_i))

      by : (frame.base ≡ m.world.requests) ⊎ IsTakenOff dd i before.hold root1 (λ y. works (view before) i y || y == x)
          (OursBy dd i before.hold root1) frame.base
          → (more : List Request) × (w2.requests ≡ m.world.requests ++ more) × (among (view end).root i w2.requests ≡ more)
      by (inr t) = absurd (working_serving w.at.leaf.phase (goes_on (view m) h.held.calm i x w)
          (ap (λ (l : Leaf). l.phase) (some_same (sym w.at.there ∙ there0)) ∙ t.serves.0))
      by (inl e) = (
        frame.more,
        frame.is ∙ ap (λ l. l ++ frame.more) e,
        asked_is frame.base frame.more frame.is (subst (Each Then) (sym e) each_then)
            (λ y ne. ap (among root1 y) (sym frame.is)
            ∙ ((solo_one s sound holds P sections quiet_of m h i x is).done.rest.requests y ne ∙ ap (among root1 y) (sym e)))
            (ap (among (view m).root i) e ∙ none),
      )

  pub ordered : IsOrdered
  ordered = elim (who_is (view m) i x is) [ inl w ↦ by_works w | inr p ↦ by_serves p ]
