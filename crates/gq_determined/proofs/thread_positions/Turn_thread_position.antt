-- Whose a turn is, and where the same thread is in two worlds.
use Rattle.std.proofs.Common.{◌≡◌, ◌≤◌, ◌⊎◌, ℕ, suc, ◌==◌, ◌&&◌, inl, inr, Bool, true, false, cond, List, [], ◌∷◌, length, map, Option, Some, None, is_some}
use Rattle.std.proofs.Common.{refl, ap, sym, ◌∙◌, subst, arith}
use Rattle.std.specs.Prelude.{option_map, slice_get}
use Rattle.std.proofs.lemmas.Bool.{true≢false}
use Rattle.std.proofs.lemmas.Bool.Decides.{eqb_tells}
use Rattle.gq_model.specs.declared.phase.Phase.{Phase}
use Rattle.gq_model.specs.declared.phase.Phase.TheVariants.{Pending, Running, Blocked, Serving, Handling, Exited}
use Rattle.gq_model.specs.machine.Scenario.{System}
use Rattle.gq_model.specs.machine.World.{Session, Request, Current, Signal, Leaf, World, session_at}
use Rattle.gq_model.specs.machine.Step.{is_to, kept_before, oldest, first_signal}
use Rattle.gq_model.proofs.Small_facts.{none_some, some_same, equal_self}
use Rattle.gq_laws.specs.Shapes.{Each}
use Rattle.gq_laws.specs.Session_links.{stance, stance_in, one_if, requests_of, links, IsAsked}
use Rattle.gq_laws.proofs.session_links.Asked_request_changes.{same_phase}
use Rattle.gq_laws.proofs.session_links.Linked_after_accept.{Found, oldest_found}
use Rattle.gq_laws.proofs.Outside_step_untouched.{outlined}
use Rattle.gq_laws.specs.Renamed.{renamed_leaf, renamed_session, renamed_request}
use Rattle.gq_determined.specs.internal.Threads.{Tracked, thread_by, who_by, who_of, who, works, works_for, among, seen, seen_by, IsSameThread}
use Rattle.gq_determined.specs.internal.Threads.{asker, has_work, served_for}
use Rattle.gq_determined.proofs.regions.Region_changes.{within_there, within_here}
use Rattle.gq_determined.proofs.regions.Related_around.{oldest_counts}
use Rattle.gq_determined.proofs.thread_positions.Single_thread_position.{IsPlaced, IsWaiting, pending, one_pending, IsBusy, IsRequested, busy_same}
use Rattle.gq_determined.proofs.thread_positions.Single_thread_position.{busy_requested, requested_same}
use Rattle.gq_determined.proofs.thread_positions.Single_thread_position.{root_waits, busy_waits}

and_left : (b c : Bool) → (b && c) ≡ true → b ≡ true
and_left true c e = refl
and_left false c e = absurd cc

and_right : (b c : Bool) → (b && c) ≡ true → c ≡ true
and_right true c e = e
and_right false c e = absurd cc

pub is_equal : (m n : ℕ) → (m == n) ≡ true → m ≡ n
is_equal m n e = elim (eqb_tells m n) [ inl t ↦ t.1 | inr t ↦ absurd (true≢false (sym e ∙ t.0)) ]

-- a leaf works for a thread and does not wait
pub record IsAt (g : Tracked) (i y : ℕ) : Type 0 where
  pub leaf : Leaf
  pub there : slice_get g.world.leaves y ≡ Some leaf
  pub thread : thread_by g.root y leaf.current ≡ i
  pub has_work : has_work leaf.phase (first_signal leaf.signals) ≡ true
  pub goes : leaf.phase ≡ Blocked → ⊥

-- it goes on
abbrev pub Goes_on : Phase → Type 0
Goes_on phase = (phase ≡ Running) ⊎ (phase ≡ Handling)

-- or takes a signal
abbrev pub TakesSignal : Leaf → Type 0
TakesSignal leaf = (leaf.phase ≡ Serving) × (is_some (first_signal leaf.signals) ≡ true)

abbrev pub Steps : Leaf → Type 0
Steps leaf = Goes_on leaf.phase ⊎ TakesSignal leaf

-- so it takes a step
pub record IsWorking (g : Tracked) (i y : ℕ) : Type 0 where
  pub at : IsAt g i y
  pub runs : Steps at.leaf

-- or it takes up a request of the thread
pub record IsServing (g : Tracked) (i y : ℕ) : Type 0 where
  pub leaf : Leaf
  pub there : slice_get g.world.leaves y ≡ Some leaf
  pub serves : leaf.phase ≡ Serving
  pub idle : first_signal leaf.signals ≡ None
  pub taken : Request × List Request
  pub found : oldest g.world y g.world.requests ≡ Some taken
  pub root : g.root taken.0.session ≡ i

pub who_is : (g : Tracked) (i y : ℕ) → who g y ≡ Some i → IsWorking g i y ⊎ IsServing g i y
who_is g i y e = of (slice_get g.world.leaves y) refl e
  where
    by : (leaf : Leaf) → slice_get g.world.leaves y ≡ Some leaf → (p : Phase) → leaf.phase ≡ p → who_by g y leaf.current leaf.signals p ≡ Some i
        → IsWorking g i y ⊎ IsServing g i y
    by leaf there Running is e = inl (record {
      at = record {
        leaf = leaf;
        there = there;
        thread = some_same e;
        has_work = ap (λ p. has_work p (first_signal leaf.signals)) is;
        goes = λ b. running (sym is ∙ b);
      };
      runs = inl (inl is);
    })
      where
        running : Running ≡ Blocked → ⊥
        running e = cc
    by leaf there Handling is e = inl (record {
      at = record {
        leaf = leaf;
        there = there;
        thread = some_same e;
        has_work = ap (λ p. has_work p (first_signal leaf.signals)) is;
        goes = λ b. handling (sym is ∙ b);
      };
      runs = inl (inr is);
    })
      where
        handling : Handling ≡ Blocked → ⊥
        handling e = cc
    by leaf there Serving is e = signal (first_signal leaf.signals) refl e
      where
        serving : Serving ≡ Blocked → ⊥
        serving e = cc

        found : first_signal leaf.signals ≡ None → (o : Option (Request × List Request)) → oldest g.world y g.world.requests ≡ o → asker g.root o ≡ Some i
            → IsWorking g i y ⊎ IsServing g i y
        found idle None f e = absurd (none_some e)
        found idle (Some p) f e =
            inr (record { leaf = leaf; there = there; serves = is; idle = idle; taken = p; found = f; root = some_same e })

        signal : (s : Option (ℕ × List Signal)) → first_signal leaf.signals ≡ s
            → served_for g.root (thread_by g.root y leaf.current) s (oldest g.world y g.world.requests) ≡ Some i → IsWorking g i y ⊎ IsServing g i y
        signal None f e = found f (oldest g.world y g.world.requests) refl e
        signal (Some s) f e = inl (record {
          at = record {
            leaf = leaf;
            there = there;
            thread = some_same e;
            has_work = ap (λ p. has_work p (first_signal leaf.signals)) is ∙ ap is_some f;
            goes = λ b. serving (sym is ∙ b);
          };
          runs = inr (is, ap is_some f);
        })
    by leaf there Pending is e = absurd (none_some e)
    by leaf there Blocked is e = absurd (none_some e)
    by leaf there Exited is e = absurd (none_some e)

    of : (o : Option Leaf) → slice_get g.world.leaves y ≡ o → who_of g y o ≡ Some i → IsWorking g i y ⊎ IsServing g i y
    of None there e = absurd (none_some e)
    of (Some leaf) there e = by leaf there leaf.phase refl e

-- THE SAME IN BOTH WORLDS

pub works_at : (g : Tracked) (i y : ℕ) → IsAt g i y → works g i y ≡ true
works_at g i y a =
    ap (works_for g.root i y) a.there
    ∙ (ap (λ b. b && (thread_by g.root y a.leaf.current == i)) a.has_work ∙ (ap (λ n. n == i) a.thread ∙ equal_self i))

blocked_seen : (p : Phase) (leaf : Leaf) → (seen_by p leaf).phase ≡ Blocked → p ≡ Blocked
blocked_seen Pending leaf e = absurd (ne e)
  where
    ne : Running ≡ Blocked → ⊥
    ne e = cc
blocked_seen Running leaf e = e
blocked_seen Blocked leaf e = refl
blocked_seen Serving leaf e = e
blocked_seen Handling leaf e = e
blocked_seen Exited leaf e = e

seen_blocked : (leaf : Leaf) → leaf.phase ≡ Blocked → (seen leaf).phase ≡ Blocked
seen_blocked leaf e = ap (λ p. (seen_by p leaf).phase) e

-- where a thread is in the one world, it is in the other
pub at_other : (g h : Tracked) (i y : ℕ) → IsSameThread i g h → IsAt g i y → IsAt h i y
at_other g h i y s a = by (slice_get h.world.leaves y) refl (sym (s.leaves y) ∙ works_at g i y a)
  where
    by : (o : Option Leaf) → slice_get h.world.leaves y ≡ o → works h i y ≡ true → IsAt h i y
    by None e is = absurd (true≢false (sym is ∙ ap (works_for h.root i y) e))
    by (Some leaf) e is =
        let both = sym (ap (works_for h.root i y) e) ∙ is in
        let same : seen leaf ≡ renamed_leaf s.f (seen a.leaf)
        = some_same (ap (option_map seen) (sym e) ∙ (s.alike y (works_at g i y a) ∙ ap (option_map (λ l. renamed_leaf s.f (seen l))) a.there)) in
        record {
          leaf = leaf;
          there = e;
          thread = is_equal _ _ (and_right _ _ both);
          has_work = and_left _ _ both;
          goes = λ b. a.goes (blocked_seen a.leaf.phase a.leaf (sym (ap (λ (l : Leaf). l.phase) same) ∙ seen_blocked leaf b));
        }

pub at_back : (g h : Tracked) (i y : ℕ) → IsSameThread i g h → IsAt h i y → IsAt g i y
at_back g h i y s a = by (slice_get g.world.leaves y) refl (s.leaves y ∙ works_at h i y a)
  where
    by : (o : Option Leaf) → slice_get g.world.leaves y ≡ o → works g i y ≡ true → IsAt g i y
    by None e is = absurd (true≢false (sym is ∙ ap (works_for g.root i y) e))
    by (Some leaf) e is =
        let both = sym (ap (works_for g.root i y) e) ∙ is in
        let same : seen a.leaf ≡ renamed_leaf s.f (seen leaf)
        = some_same (ap (option_map seen) (sym a.there) ∙ (s.alike y is ∙ ap (option_map (λ l. renamed_leaf s.f (seen l))) e)) in
        record {
          leaf = leaf;
          there = e;
          thread = is_equal _ _ (and_right _ _ both);
          has_work = and_left _ _ both;
          goes = λ b. a.goes (blocked_seen a.leaf.phase a.leaf (ap (λ (l : Leaf). l.phase) same ∙ seen_blocked leaf b));
        }

-- ONE PLACE

module _ (system : System) (g : Tracked) (t : IsPlaced system g) where
  abbrev w : World
  w = g.world

  -- a leaf in `main`, or one with a current session
  abbrev Where : ℕ → ℕ → Type 0
  Where i y = ((y ≡ i) × ((current : Option Current) → (links w).stances y ≡ Some (stance Blocked current) → ⊥))
      ⊎ ((k : ℕ) × (b : IsBusy system g t k) × (b.y ≡ y) × (g.root k ≡ i))

  where_at : (i y : ℕ) → IsAt g i y → Where i y
  where_at i y a = by a.leaf.current refl a.thread
    where
      stood : (links w).stances y ≡ Some (stance a.leaf.phase a.leaf.current)
      stood = ap stance_in a.there

      by : (current : Option Current) → a.leaf.current ≡ current → thread_by g.root y current ≡ i → Where i y
      by None e is = inl (is, λ current b. a.goes (same_phase (sym stood ∙ b)))
      by (Some h) e is = inr (
        h.session,
        record { y = y; phase = a.leaf.phase; current = h; is = refl; at = stood ∙ ap (λ o. Some (stance a.leaf.phase o)) e; active = a.goes },
        refl,
        is,
      )

  root_blocked : (i k : ℕ) → g.root k ≡ i → IsWaiting system g t k → (links w).stances i ≡ Some (stance Blocked None)
  root_blocked i k e a = ap (links w).stances (sym e) ∙ root_waits system g t k a

  pub at_same : (i x y : ℕ) → IsAt g i x → IsAt g i y → x ≡ y
  at_same i x y a b = by (where_at i x a) (where_at i y b)
    where
      by : Where i x → Where i y → x ≡ y
      by (inl p) (inl q) = p.0 ∙ sym q.0
      by (inl p) (inr q) = absurd (p.1 None (ap (links w).stances p.0 ∙ root_blocked i q.0 q.3 (busy_waits system g t q.0 q.1)))
      by (inr p) (inl q) = absurd (q.1 None (ap (links w).stances q.0 ∙ root_blocked i p.0 p.3 (busy_waits system g t p.0 p.1)))
      by (inr p) (inr q) = sym p.2 ∙ (busy_same system g t p.0 q.0 p.1 q.1 (p.3 ∙ sym q.3) ∙ q.2)

  pub at_asked : (i x k : ℕ) → IsAt g i x → IsRequested system g t k → g.root k ≡ i → ⊥
  at_asked i x k a r is = by (where_at i x a)
    where
      by : Where i x → ⊥
      by (inl p) = p.1 None (ap (links w).stances p.0 ∙ root_blocked i k is r.waiting)
      by (inr p) = busy_requested system g t p.0 k p.1 r (p.3 ∙ sym is)

  -- REQUESTS

  to_there : (x : ℕ) (o : Option Session) → is_to x o ≡ true → (s : Session) × (o ≡ Some s) × (s.server ≡ x)
  to_there x None e = absurd cc
  to_there x (Some s) e = (s, refl, is_equal s.server x e)

  -- each request of the thread is of the same session
  one_if_same : (k j : ℕ) → j ≡ k → one_if (j == k) ≡ 1
  one_if_same k j e = ap one_if (ap (λ n. n == k) e ∙ equal_self k)

  module _ (i k : ℕ) (each_same : (r : Request) → (requests_of r.session w.requests ≡ 0 → ⊥) → g.root r.session ≡ i → r.session ≡ k) where
    among_few : (rs : List Request) → ((r : Request) → (requests_of r.session rs ≡ 0 → ⊥) → (requests_of r.session w.requests ≡ 0 → ⊥))
        → length (among g.root i rs) ≤ requests_of k rs
    among_few [] sub = omega arith
    among_few (r ∷ rs) sub = by (g.root r.session == i) refl (among_few rs (λ q more. sub q (λ none. more (omega (arith, none)))))
      where
        by : (b : Bool) → (g.root r.session == i) ≡ b → length (among g.root i rs) ≤ requests_of k rs
            → length (cond b (r ∷ among g.root i rs) (among g.root i rs)) ≤ requests_of k (r ∷ rs)
        by false is h = omega (arith, h)
        by true is h =
            let own : one_if (r.session == r.session) ≡ 1 = one_if_same r.session r.session refl in
            let same = each_same r (sub r (λ none. omega (arith, none, own))) (is_equal _ _ is) in
            let one : one_if (r.session == k) ≡ 1 = one_if_same k r.session same in
            omega (arith, h, one)

  asked_there : (j : ℕ) (rs : List Request) → Each (IsAsked (links w)) rs → (requests_of j rs ≡ 0 → ⊥) → (s : Session) × (session_at w j ≡ Some s)
  asked_there j [] each more = absurd (more refl)
  asked_there j (r ∷ rs) each more = elim (eqb_tells r.session j) [
    | inl e ↦ let s = outlined (session_at w r.session) each.0.0 each.0.1 in (s.0, ap (session_at w) (sym e.1) ∙ s.1)
    | inr e ↦ let none : one_if (r.session == j) ≡ 0 = ap one_if e.0 in asked_there j rs each.1 (λ n. more (omega (arith, n, none)))
  ]

  pub requested_by : (j : ℕ) → (requests_of j w.requests ≡ 0 → ⊥) → IsRequested system g t j
  requested_by j more =
      let s = asked_there j w.requests t.linked.asked more in
      record { waiting = pending system g t j s.0 s.1 (λ none. more (omega (arith, none))); more = more }

  module _ (i x : ℕ) (a : IsServing g i x) where
    abbrev found : Found (λ r. Unit {0}) w x w.requests a.taken
    found = oldest_found (λ r. Unit {0}) w x w.requests a.taken a.found

    some_requests : requests_of a.taken.0.session w.requests ≡ 0 → ⊥
    some_requests none =
        let one : one_if (a.taken.0.session == a.taken.0.session) ≡ 1 = one_if_same a.taken.0.session a.taken.0.session refl in
        let all = found.counts a.taken.0.session in
        omega (arith, none, one, all)

    pub requested : IsRequested system g t a.taken.0.session
    requested = requested_by a.taken.0.session some_requests

    pub taken_there : (s : Session) × (session_at w a.taken.0.session ≡ Some s) × (s.server ≡ x)
    taken_there = to_there x (session_at w a.taken.0.session) found.to

    pub one_request : (r : Request) × (among g.root i w.requests ≡ r ∷ [])
    one_request =
        let k = a.taken.0.session in
        let few = among_few i k (λ r more is. requested_same system g t r.session k (requested_by r.session more) requested (is ∙ sym a.root))
        w.requests (λ r more. more) in
        let all = one_pending system g t k requested.waiting in
        let some = oldest_counts w x g.root i w.requests a.taken a.found a.root in
        by (among g.root i w.requests) (omega (arith, few, all, some))
      where
        by : (rs : List Request) → length rs ≡ 1 → (r : Request) × (rs ≡ r ∷ [])
        by [] e = absurd (omega (arith, e))
        by (r ∷ []) e = (r, refl)
        by (r ∷ q ∷ rs) e = absurd (omega (arith, e))

-- a leaf that works and has no current session is its own thread's
pub own_at : (system : System) (g : Tracked) → IsPlaced system g → (y : ℕ) (l : Leaf) → slice_get g.world.leaves y ≡ Some l → l.current ≡ None
    → has_work l.phase (first_signal l.signals) ≡ true → g.own y ≡ y
own_at system g t y l there none = by l.phase refl
  where
    stood : (p : Phase) → l.phase ≡ p → (links g.world).stances y ≡ Some (stance p None)
    stood p e = ap stance_in there ∙ (λ j. Some (stance (e j) (none j)))

    by : (p : Phase) → l.phase ≡ p → has_work p (first_signal l.signals) ≡ true → g.own y ≡ y
    by Pending e act = t.main y Pending (stood Pending e) refl
    by Running e act = t.main y Running (stood Running e) refl
    by Blocked e act = t.main y Blocked (stood Blocked e) refl
    by Handling e act = t.main y Handling (stood Handling e) refl
    by Serving e act = (t.signals y l there act).0
    by Exited e act = absurd (true≢false (sym act))

-- a thread for which a step is taken has its own leaf
pub lives_who : (system : System) (g : Tracked) → IsPlaced system g → (i y : ℕ) → who g y ≡ Some i → g.own i ≡ i
lives_who system g t i y e = by (who_is g i y e)
  where
    of : (l : Leaf) → slice_get g.world.leaves y ≡ Some l → has_work l.phase (first_signal l.signals) ≡ true → (current : Option Current)
        → l.current ≡ current → thread_by g.root y current ≡ i → g.own i ≡ i
    of l there act None e is = subst (λ n. g.own n ≡ n) is (own_at system g t y l there e act)
    of l there act (Some q) e is =
        let m = t.linked.handles y l.phase q (ap stance_in there ∙ ap (λ o. Some (stance l.phase o)) e) in
        let s = outlined (session_at g.world q.session) m.0 m.1 in
        subst (λ n. g.own n ≡ n) is (t.lives q.session s.0 s.1)

    by : IsWorking g i y ⊎ IsServing g i y → g.own i ≡ i
    by (inl w) = of w.at.leaf w.at.there w.at.has_work w.at.leaf.current refl w.at.thread
    by (inr p) = let s = taken_there system g t i y p in subst (λ n. g.own n ≡ n) p.root (t.lives p.taken.0.session s.0 s.1)

-- the one request of a region, where the oldest is of it, is the oldest
module _ (w : World) (x : ℕ) (root : ℕ → ℕ) (y : ℕ) where
  abbrev OneIs : List Request → Option (Request × List Request) → Type 0
  OneIs rs o = (p : Request × List Request) (r : Request) → o ≡ Some p → root p.0.session ≡ y → among root y rs ≡ r ∷ [] → r ≡ p.0

  abbrev head_or : Request → List Request → Request
  head_or r [] = r
  head_or r (q ∷ rs) = q

  abbrev tail_of : List Request → List Request
  tail_of [] = []
  tail_of (q ∷ rs) = rs

  pub oldest_one : (rs : List Request) → OneIs rs (oldest w x rs)
  oldest_one [] = λ p r e. absurd (none_some e)
  oldest_one (q ∷ qs) = by (is_to x (session_at w q.session)) (oldest_one qs) (oldest_counts w x root y qs)
    where
      later : (o : Option (Request × List Request)) → OneIs qs o
          → ((p : Request × List Request) → o ≡ Some p → root p.0.session ≡ y → length (among root y qs) ≡ suc (length (among root y p.1)))
          → OneIs (q ∷ qs) (kept_before q o)
      later None h n p r e is one = absurd (none_some e)
      later (Some p') h n p r e is one =
          let same : (p'.0, q ∷ p'.1) ≡ p = some_same e in
          let is' : root p'.0.session ≡ y = ap (λ (p : Request × List Request). root p.0.session) same ∙ is in
          of (root q.session == y) (h p' r refl is') (n p' refl is') one ∙ ap (λ (p : Request × List Request). p.0) same
        where
          of : (b : Bool) → (among root y qs ≡ r ∷ [] → r ≡ p'.0) → length (among root y qs) ≡ suc (length (among root y p'.1))
              → cond b (q ∷ among root y qs) (among root y qs) ≡ r ∷ [] → r ≡ p'.0
          of false h n one = h one
          of true h n one = let none = ap (λ l. length (tail_of l)) one in absurd (omega (arith, n, none))

      by : (b : Bool) → OneIs qs (oldest w x qs)
          → ((p : Request × List Request) → oldest w x qs ≡ Some p → root p.0.session ≡ y → length (among root y qs) ≡ suc (length (among root y p.1)))
          → OneIs (q ∷ qs) (cond b (Some (q, qs)) (kept_before q (oldest w x qs)))
      by true h n = λ p r e is one. (
          let same : (q, qs) ≡ p = some_same e in
          let in_it : (root q.session == y) ≡ true = ap (λ n. n == y) (ap (λ (p : Request × List Request). root p.0.session) same ∙ is) ∙ equal_self y in
          sym (ap (head_or q) (sym (ap (λ b. cond b (q ∷ among root y qs) (among root y qs)) in_it) ∙ one)) ∙ ap (λ (p : Request × List Request). p.0) same)
      by false h n = later (oldest w x qs) h n

-- THE SAME PLACE

module _ (system : System) (g h : Tracked) (t : IsPlaced system g) (u : IsPlaced system h) (i : ℕ) (s : IsSameThread i g h) where
  -- the thread takes up the same request in both worlds
  pub record ServesSame (x : ℕ) : Type 0 where
    pub first : IsServing g i x
    pub other : IsServing h i x
    pub same : other.taken.0 ≡ renamed_request s.f first.taken.0
    pub one : among g.root i g.world.requests ≡ first.taken.0 ∷ []

  -- a step for the thread is one of the same leaf in both, which works or serves in both
  pub record IsSamePlace (x y : ℕ) : Type 0 where
    pub leaf : x ≡ y
    pub how : (IsWorking g i x × IsWorking h i x) ⊎ ServesSame x

  served_same : (x y : ℕ) → IsServing g i x → IsServing h i y → IsSamePlace x y
  served_same x y a b =
      let m = one_request system g t i x a in
      let n = one_request system h u i y b in
      let m_is : m.0 ≡ a.taken.0 = oldest_one g.world x g.root i g.world.requests a.taken m.0 a.found a.root m.1 in
      let n_is : n.0 ≡ b.taken.0 = oldest_one h.world y h.root i h.world.requests b.taken n.0 b.found b.root n.1 in
      let one : among g.root i g.world.requests ≡ a.taken.0 ∷ [] = m.1 ∙ ap (λ r. r ∷ []) m_is in
      let same : b.taken.0 ≡ renamed_request s.f a.taken.0
      = ap (head_or h.world y h.root i b.taken.0) (ap (λ r. r ∷ []) (sym n_is) ∙ (sym n.1 ∙ (s.region.requests ∙ ap (map (renamed_request s.f)) one))) in
      let there = taken_there system g t i x a in
      let there_h = taken_there system h u i y b in
      let other : session_at h.world (s.f a.taken.0.session) ≡ Some (renamed_session s.f there.0)
      = (within_there h.root i h.world.sessions (s.f a.taken.0.session) (renamed_session s.f there.0)
      (s.region.sessions.there a.taken.0.session there.0 (within_here g.root i g.world.sessions a.taken.0.session a.root ∙ there.1))).1 in
      let equal : x ≡ y = sym there.2 ∙ (ap (λ (s : Session). s.server)
      (some_same (sym other ∙ (ap (λ (r : Request). session_at h.world r.session) (sym same) ∙ there_h.1))) ∙ there_h.2) in
      record { leaf = equal; how = inr (move x y (sym equal) a b same one) }
    where
      move : (x y : ℕ) → y ≡ x → (a : IsServing g i x) (b : IsServing h i y) → b.taken.0 ≡ renamed_request s.f a.taken.0
          → among g.root i g.world.requests ≡ a.taken.0 ∷ [] → ServesSame x
      move x y e a b same one = subst (λ y. (b : IsServing h i y) → b.taken.0 ≡ renamed_request s.f a.taken.0 → ServesSame x) (sym e)
          (λ b same. record { first = a; other = b; same = same; one = one }) b same

  pub same_place : (x y : ℕ) → who g x ≡ Some i → who h y ≡ Some i → IsSamePlace x y
  same_place x y e f = by (who_is g i x e) (who_is h i y f)
    where
      by : IsWorking g i x ⊎ IsServing g i x → IsWorking h i y ⊎ IsServing h i y → IsSamePlace x y
      by (inl a) (inl b) =
          let equal : x ≡ y = at_same system g t i x y a.at (at_back g h i y s b.at) in
          record { leaf = equal; how = inl (a, subst (λ y. IsWorking h i y) (sym equal) b) }
      by (inl a) (inr b) = absurd (at_asked system h u i x b.taken.0.session (at_other g h i x s a.at) (requested system h u i y b) b.root)
      by (inr a) (inl b) = absurd (at_asked system g t i y a.taken.0.session (at_back g h i y s b.at) (requested system g t i x a) a.root)
      by (inr a) (inr b) = served_same x y a b
