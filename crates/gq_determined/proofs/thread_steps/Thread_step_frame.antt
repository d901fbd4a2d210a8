-- A step for one thread is not seen by another; and after a step of its own in two worlds a thread has the same in both.
use Rattle.std.proofs.Common.{◌≡◌, ◌≢◌, ◌⊎◌, ℕ, suc, ◌==◌, ◌&&◌, ◌||◌, inl, inr, Bool, true, false, cond, List, [], ◌∷◌, map, Option, Some, None, Ok, ◌++◌}
use Rattle.std.proofs.Common.{refl, ap, sym, ◌∙◌, subst}
use Rattle.std.specs.Prelude.{is_some, option_map, slice_get}
use Rattle.std.proofs.lemmas.Bool.{true≢false}
use Rattle.std.proofs.lemmas.Bool.Decides.{eqb_tells}
use Rattle.gq_model.specs.declared.phase.Phase.{Phase}
use Rattle.gq_model.specs.declared.phase.Phase.TheVariants.{Pending, Running, Blocked, Serving, Handling, Exited}
use Rattle.gq_model.specs.machine.Scenario.{System, Component}
use Rattle.gq_model.specs.machine.World.{Session, Request, Current, Signal, Leaf, World, session_at}
use Rattle.gq_model.specs.machine.Step.{first_signal}
use Rattle.gq_model.specs.machine.Doing.{Doing, Event}
use Rattle.gq_model.specs.machine.Requests.{free_place}
use Rattle.gq_model.proofs.Small_facts.{none_some, some_same, equal_self}
use Rattle.gq_laws.specs.Shapes.{Each}
use Rattle.gq_laws.specs.Session_links.{Fits, stance, stance_in, IsLinkedWorld}
use Rattle.gq_laws.proofs.Outside_step_untouched.{free_none, outlined}
use Rattle.gq_laws.specs.Renamed.{renamed_slot, renamed_leaf, renamed_request}
use Rattle.gq_determined.specs.internal.Threads.{Tracked, thread_by, anew, stepped_to, works, works_for, is_active, within, among, slots_of, seen, seen_by}
use Rattle.gq_determined.specs.internal.Threads.{Accepts, has_work, IsSameThread}
use Rattle.gq_determined.proofs.regions.Outside_region_kept.{OursBy, IsElse, current_of}
use Rattle.gq_determined.proofs.thread_positions.Single_thread_position.{IsPlaced}
use Rattle.gq_determined.proofs.thread_steps.Own_steps.{anew_else, anew_here, not_free, each_asked}

pub is_or_not : (p : Phase) → (p ≡ Serving) ⊎ (p ≡ Serving → ⊥)
is_or_not Serving = inl refl
is_or_not Pending = inr (λ e. cc)
is_or_not Running = inr (λ e. cc)
is_or_not Blocked = inr (λ e. cc)
is_or_not Handling = inr (λ e. cc)
is_or_not Exited = inr (λ e. cc)

-- a leaf accepts a request next, or does not
pub accepts_or_not : (l : Leaf) → Accepts l ⊎ (Accepts l → ⊥)
accepts_or_not l = by (is_or_not l.phase) (first_signal l.signals) refl
  where
    by : (l.phase ≡ Serving) ⊎ (l.phase ≡ Serving → ⊥) → (s : Option (ℕ × List Signal)) → first_signal l.signals ≡ s → Accepts l ⊎ (Accepts l → ⊥)
    by (inr p) s e = inr (λ a. p a.0)
    by (inl p) None e = inl (p, e)
    by (inl p) (Some s) e = inr (λ a. none_some (sym a.1 ∙ e))

-- a leaf that is active works
pub active_works : (p : Phase) (s : Option (ℕ × List Signal)) → is_active p ≡ true → has_work p s ≡ true
active_works Pending s e = refl
active_works Running s e = refl
active_works Blocked s e = refl
active_works Handling s e = refl
active_works Serving s e = absurd (true≢false (sym e))
active_works Exited s e = absurd (true≢false (sym e))

-- one that works is active, or has a signal to take
pub works_how : (p : Phase) (s : Option (ℕ × List Signal)) → has_work p s ≡ true → (is_active p ≡ true) ⊎ ((p ≡ Serving) × (is_some s ≡ true))
works_how Pending s e = inl refl
works_how Running s e = inl refl
works_how Blocked s e = inl refl
works_how Handling s e = inl refl
works_how Serving s e = inr (refl, e)
works_how Exited s e = absurd (true≢false (sym e))

-- so it is seen to work
pub seen_works : (l : Leaf) → has_work (seen l).phase (first_signal (seen l).signals) ≡ has_work l.phase (first_signal l.signals)
seen_works l = by l.phase
  where
    by : (p : Phase) → has_work (seen_by p l).phase (first_signal (seen_by p l).signals) ≡ has_work p (first_signal l.signals)
    by Pending = refl
    by Running = refl
    by Blocked = refl
    by Serving = refl
    by Handling = refl
    by Exited = refl

-- a phase that is seen is as active
pub seen_active : (l : Leaf) → is_active (seen l).phase ≡ is_active l.phase
seen_active l = by l.phase
  where
    by : (p : Phase) → is_active (seen_by p l).phase ≡ is_active p
    by Pending = refl
    by Running = refl
    by Blocked = refl
    by Serving = refl
    by Handling = refl
    by Exited = refl

-- whether a leaf works for a thread is seen of it
works_seen : (root : ℕ → ℕ) (i y : ℕ) (o : Option Leaf) → works_for root i y (option_map seen o) ≡ works_for root i y o
works_seen root i y None = refl
works_seen root i y (Some l) = by l.phase
  where
    by : (p : Phase) → works_for root i y (Some (seen_by p l)) ≡ (has_work p (first_signal l.signals) && (thread_by root y l.current == i))
    by Pending = refl
    by Running = refl
    by Blocked = refl
    by Handling = refl
    by Serving = refl
    by Exited = refl

module _ (u : System) (g : Tracked) (t : IsPlaced u g) (j x : ℕ) (component : Component) (a : Leaf) (there : slice_get g.world.leaves x ≡ Some a) where
  abbrev d : Doing
  d = record { system = u; world = g.world; x = x; component = component; leaf = record a { steps = suc a.steps } }

  abbrev k0 : ℕ
  k0 = free_place g.world.sessions

  abbrev root : ℕ → ℕ
  root = anew g.root k0 j

  abbrev c : ℕ → Bool
  c y = works g j y || y == x

  -- what a step for the thread comes to
  pub record IsDone (new : World) : Type 0 where
    pub active : a.phase ≡ Blocked → ⊥
    pub linked : IsLinkedWorld u new
    pub rest : IsElse d j g.own root c (OursBy d j g.own root) new
    pub was : (Accepts a → ⊥) → thread_by g.root x a.current ≡ j
    pub taken : Accepts a → (l : Leaf) → slice_get new.leaves x ≡ Some l → thread_by root x l.current ≡ j
    -- a signal that is submitted was so before
    pub flags : (y : ℕ) (l : Leaf) → slice_get new.leaves y ≡ Some l → is_some (first_signal l.signals) ≡ true
        → (m : Leaf) × (slice_get g.world.leaves y ≡ Some m) × (is_some (first_signal m.signals) ≡ true)

  equal_of : (m n : ℕ) → (m == n) ≡ true → m ≡ n
  equal_of m n e = elim (eqb_tells m n) [ inl q ↦ q.1 | inr q ↦ absurd (true≢false (sym e ∙ q.0)) ]

  second : (b c : Bool) → (b && c) ≡ true → c ≡ true
  second true c e = e
  second false c e = absurd cc

  or_cases : (b c : Bool) → (b || c) ≡ true → (b ≡ true) ⊎ (c ≡ true)
  or_cases true c e = inl refl
  or_cases false c e = inr e

  same_root : (k : ℕ) (s : Session) → session_at g.world k ≡ Some s → root k ≡ g.root k
  same_root k s at = anew_else g.root k0 j k (not_free g.world k s at)

  -- the thread of a leaf does not change with the roots
  same_thread : (y : ℕ) (l : Leaf) → slice_get g.world.leaves y ≡ Some l → thread_by root y l.current ≡ thread_by g.root y l.current
  same_thread y l at = by l.current refl
    where
      by : (current : Option Current) → l.current ≡ current → thread_by root y current ≡ thread_by g.root y current
      by None e = refl
      by (Some q) e =
          let m = t.linked.handles y l.phase q (ap stance_in at ∙ ap (λ o. Some (stance l.phase o)) e) in
          let s = outlined (session_at g.world q.session) m.0 m.1 in
          same_root q.session s.0 s.1

  same_works : (i y : ℕ) → works_for root i y (slice_get g.world.leaves y) ≡ works g i y
  same_works i y = by (slice_get g.world.leaves y) refl
    where
      by : (o : Option Leaf) → slice_get g.world.leaves y ≡ o → works_for root i y o ≡ works_for g.root i y o
      by None e = refl
      by (Some l) e = ap (λ n. has_work l.phase (first_signal l.signals) && (n == i)) (same_thread y l e)

  module _ (new : World) (done : IsDone new) where
    -- a leaf that is left as it was works as it did
    pub works_else : (i y : ℕ) → c y ≡ false → works_for root i y (slice_get new.leaves y) ≡ works g i y
    works_else i y out =
        sym (works_seen root i y (slice_get new.leaves y)) ∙ (ap (works_for root i y) (done.rest.at y out)
        ∙ (works_seen root i y (slice_get g.world.leaves y) ∙ same_works i y))

    mapped_current : (o p : Option Leaf) (l : Leaf) → o ≡ Some l → option_map current_of o ≡ option_map current_of p → (m : Leaf) × (p ≡ Some m)
        × (l.current ≡ m.current)
    mapped_current None p l e f = absurd (none_some e)
    mapped_current (Some o) None l e f = absurd (none_some (sym f))
    mapped_current (Some o) (Some m) l e f = (m, refl, ap current_of (sym (some_same e)) ∙ some_same f)

    -- the others work for the thread of the step, or not at all
    pub thread_new : (y : ℕ) → c y ≡ true → (l : Leaf) → slice_get new.leaves y ≡ Some l → has_work l.phase (first_signal l.signals) ≡ true
        → thread_by root y l.current ≡ j
    thread_new y ours l at act = elim (eqb_tells y x) [
      | inl e ↦ subst (λ y. thread_by root y l.current ≡ j) (sym e.1) (here (ap (slice_get new.leaves) (sym e.1) ∙ at))
      | inr e ↦ elim (or_cases (works g j y) (y == x) ours) [
        | inr q ↦ absurd (e.1 (equal_of y x q))
        | inl is ↦
            let m = mapped_current (slice_get new.leaves y) (slice_get g.world.leaves y) l at (done.rest.currents y e.1) in
            ap (thread_by root y) m.2 ∙ (same_thread y m.0 m.1 ∙ equal_of _ _ (second _ _ (sym (ap (works_for g.root j y) m.1) ∙ is)))
      ]
    ]
      where
        here : slice_get new.leaves x ≡ Some l → thread_by root x l.current ≡ j
        here at = elim (accepts_or_not a) [
          | inl s ↦ done.taken s l at
          | inr busy ↦ elim (works_how l.phase (first_signal l.signals) act) [
            | inl active ↦ ap (thread_by root x) (done.rest.mine busy l at active) ∙ (same_thread x a there ∙ done.was busy)
            | inr flag ↦ flagged at busy flag.0 flag.1
          ]
        ]
          where
            none_of : (current : Option Current) → Fits Serving current → current ≡ None
            none_of None f = refl
            none_of (Some q) f = absurd f

            -- one that has a signal to take had it before, and is of its own thread
            flagged : slice_get new.leaves x ≡ Some l → (Accepts a → ⊥) → l.phase ≡ Serving → is_some (first_signal l.signals) ≡ true
                → thread_by root x l.current ≡ j
            flagged at busy serves flag =
                let m = done.flags x l at flag in
                let same : m.0 ≡ a = some_same (sym m.1 ∙ there) in
                let none : a.current ≡ None = (t.signals x a there (ap (λ (l : Leaf). is_some (first_signal l.signals)) (sym same) ∙ m.2)).1 in
                let new_none : l.current ≡ None
                = none_of l.current (subst (λ p. Fits p l.current) serves (done.linked.fits x (stance l.phase l.current) (ap stance_in at))) in
                ap (thread_by root x) new_none ∙ (sym (ap (thread_by g.root x) none) ∙ done.was busy)

    -- they do not work for another thread
    pub works_out : (i y : ℕ) → i ≢ j → c y ≡ true → works_for root i y (slice_get new.leaves y) ≡ false
    works_out i y ne ours = by (slice_get new.leaves y) refl
      where
        other : (n : ℕ) → n ≡ j → (n == i) ≡ false
        other n e = elim (eqb_tells n i) [ inl q ↦ absurd (ne (sym q.1 ∙ e)) | inr q ↦ q.0 ]

        of : (l : Leaf) → slice_get new.leaves y ≡ Some l → (b : Bool) → has_work l.phase (first_signal l.signals) ≡ b
            → (b && (thread_by root y l.current == i)) ≡ false
        of l at false act = refl
        of l at true act = other _ (thread_new y ours l at act)

        by : (o : Option Leaf) → slice_get new.leaves y ≡ o → works_for root i y o ≡ false
        by None e = refl
        by (Some l) e = of l e (has_work l.phase (first_signal l.signals)) refl

    works_before : (i y : ℕ) → i ≢ j → c y ≡ true → works g i y ≡ false
    works_before i y ne ours = elim (or_cases (works g j y) (y == x) ours) [
      | inl is ↦ by (slice_get g.world.leaves y) is
      | inr q ↦ subst (λ y. works g i y ≡ false) (sym (equal_of y x q)) here
    ]
      where
        other : (n : ℕ) → n ≡ j → (n == i) ≡ false
        other n e = elim (eqb_tells n i) [ inl q ↦ absurd (ne (sym q.1 ∙ e)) | inr q ↦ q.0 ]

        none : (b c : Bool) → (b && c) ≡ true → c ≡ true
        none b c e = second b c e

        and_false : (b : Bool) → (b && false) ≡ false
        and_false true = refl
        and_false false = refl

        by : (o : Option Leaf) → works_for g.root j y o ≡ true → works_for g.root i y o ≡ false
        by None e = refl
        by (Some l) e =
            ap (λ b. has_work l.phase (first_signal l.signals) && b) (other (thread_by g.root y l.current) (equal_of _ _ (second _ _ e)))
            ∙ and_false (has_work l.phase (first_signal l.signals))

        here : works g i x ≡ false
        here = ap (works_for g.root i x) there ∙ of (accepts_or_not a)
          where
            of : Accepts a ⊎ (Accepts a → ⊥) → (has_work a.phase (first_signal a.signals) && (thread_by g.root x a.current == i)) ≡ false
            of (inl s) = λ j. has_work (s.0 j) (s.1 j) && (thread_by g.root x a.current == i)
            of (inr busy) = ap (λ b. has_work a.phase (first_signal a.signals) && b) (other (thread_by g.root x a.current) (done.was busy))
                ∙ and_false (has_work a.phase (first_signal a.signals))

    -- another thread has what it had
    pub same_else : (i y : ℕ) → i ≢ j → works_for root i y (slice_get new.leaves y) ≡ works g i y
    same_else i y ne = by (c y) refl
      where
        by : (b : Bool) → c y ≡ b → works_for root i y (slice_get new.leaves y) ≡ works g i y
        by false e = works_else i y e
        by true e = works_out i y ne e ∙ sym (works_before i y ne e)

    -- the region of another leaf is as it was
    within_kept : (y k : ℕ) → y ≢ j → within root y new.sessions k ≡ within g.root y g.world.sessions k
    within_kept y k ne = elim (eqb_tells k k0) [
      | inl e ↦ none_now e.1 ∙ sym (none_before e.1)
      | inr e ↦ by (eqb_tells (g.root k) y) (anew_else g.root k0 j k e.1)
    ]
      where
        out : (n : ℕ) → n ≡ j → (n == y) ≡ false
        out n e = elim (eqb_tells n y) [ inl q ↦ absurd (ne (sym q.1 ∙ e)) | inr q ↦ q.0 ]

        none_now : k ≡ k0 → within root y new.sessions k ≡ None
        none_now e = ap (λ b. cond b (session_at new k) None) (out (root k) (ap root e ∙ anew_here g.root k0 j))

        nothing : (b : Bool) → cond b (session_at g.world k0) None ≡ None
        nothing true = free_none g.world.sessions
        nothing false = refl

        none_before : k ≡ k0 → within g.root y g.world.sessions k ≡ None
        none_before e = ap (λ k'. cond (g.root k == y) (session_at g.world k') None) e ∙ nothing (g.root k == y)

        by : (((g.root k == y) ≡ true) × (g.root k ≡ y)) ⊎ (((g.root k == y) ≡ false) × (g.root k ≢ y)) → root k ≡ g.root k
            → within root y new.sessions k ≡ within g.root y g.world.sessions k
        by (inl q) same =
            ap (λ n. cond (n == y) (session_at new k) None) same
            ∙ ap (λ o. cond (g.root k == y) o None) (done.rest.sessions k (λ e. ne (sym q.1 ∙ (sym same ∙ e))))
        by (inr q) same =
            ap (λ n. cond (n == y) (session_at new k) None) same
            ∙ (ap (λ b. cond b (session_at new k) None) q.0 ∙ sym (ap (λ b. cond b (session_at g.world k) None) q.0))

    among_kept : (y : ℕ) → y ≢ j → among root y new.requests ≡ among g.root y g.world.requests
    among_kept y ne = done.rest.requests y ne
        ∙ by g.world.requests (each_asked g.world (λ k. root k ≡ g.root k) same_root g.world.requests t.linked.asked)
      where
        by : (rs : List Request) → Each (λ r. root r.session ≡ g.root r.session) rs → among root y rs ≡ among g.root y rs
        by [] each = refl
        by (r ∷ rs) each = λ e. cond (each.0 e == y) (r ∷ by rs each.1 e) (by rs each.1 e)

    -- LEFT AND RIGHT

    module _ (event : Event) (h : Tracked) (i : ℕ) (ne : i ≢ j) where
      abbrev g_new : Tracked
      g_new = stepped_to g x j (Ok (new, event))

      out_of : (y : ℕ) → works g i y ≡ true → c y ≡ false
      out_of y is = by (c y) refl
        where
          by : (b : Bool) → c y ≡ b → c y ≡ false
          by false e = e
          by true e = absurd (true≢false (sym is ∙ works_before i y ne e))

      mapped : (f : ℕ → ℕ) (o : Option Leaf) → option_map (λ l. renamed_leaf f (seen l)) o ≡ option_map (renamed_leaf f) (option_map seen o)
      mapped f None = refl
      mapped f (Some l) = refl

      mapped_slots : (f : ℕ → ℕ) (o : Option Leaf) → option_map (λ l. map (renamed_slot f) (slots_of l)) o ≡ option_map (map (renamed_slot f))
          (option_map slots_of o)
      mapped_slots f None = refl
      mapped_slots f (Some l) = refl

      -- a leaf that is another thread's showed nothing for it
      wrote_kept : (y : ℕ) → g.own y ≡ i → g_new.wrote y ≡ g.wrote y
      wrote_kept y is = elim (eqb_tells y x) [
        | inl q ↦ ap (λ b. cond b (g.wrote y ++ event ∷ []) (g.wrote y)) (none (y == x) (g.own x == j) (not_j (ap g.own (sym q.1) ∙ is)))
        | inr q ↦ ap (λ b. cond (b && (g.own x == j)) (g.wrote y ++ event ∷ []) (g.wrote y)) q.0
      ]
        where
          none : (b c : Bool) → c ≡ false → (b && c) ≡ false
          none true c e = e
          none false c e = refl

          not_j : g.own x ≡ i → (g.own x == j) ≡ false
          not_j e = elim (eqb_tells (g.own x) j) [ inl q ↦ absurd (ne (sym e ∙ q.1)) | inr q ↦ q.0 ]

      pub unseen_left : IsSameThread i g h → IsSameThread i g_new h
      unseen_left s = record {
        f = s.f;
        owned = s.owned;
        leaves = λ y. same_else i y ne ∙ s.leaves y;
        alike = λ y is. (
            let was = sym (same_else i y ne) ∙ is in
            s.alike y was ∙ (mapped s.f (slice_get g.world.leaves y) ∙ (ap (option_map (renamed_leaf s.f)) (sym (done.rest.at y (out_of y was)))
            ∙ sym (mapped s.f (slice_get new.leaves y)))));
        region = record {
          slots = λ y is. s.region.slots y is
              ∙ (mapped_slots s.f (slice_get g.world.leaves y)
              ∙ (ap (option_map (map (renamed_slot s.f))) (sym (done.rest.slots y (λ e. ne (sym is ∙ e))))
              ∙ sym (mapped_slots s.f (slice_get new.leaves y))));
          sessions = record {
            there = λ k u e. s.region.sessions.there k u (sym (within_kept i k ne) ∙ e);
            back = λ m u e. (let p = s.region.sessions.back m u e in (p.0, p.1, within_kept i p.0 ne ∙ p.2, p.3));
            single = λ k l u v e q r. s.region.sessions.single k l u v (sym (within_kept i k ne) ∙ e) (sym (within_kept i l ne) ∙ q) r;
          };
          requests = s.region.requests ∙ ap (map (renamed_request s.f)) (sym (among_kept i ne));
        };
        wrote = λ y is. wrote_kept y is ∙ s.wrote y is;
      }

      pub unseen_right : IsSameThread i h g → IsSameThread i h g_new
      unseen_right s = record {
        f = s.f;
        owned = s.owned;
        leaves = λ y. s.leaves y ∙ sym (same_else i y ne);
        alike = λ y is. done.rest.at y (out_of y (sym (s.leaves y) ∙ is)) ∙ s.alike y is;
        region = record {
          slots = λ y is. done.rest.slots y (λ e. ne (sym (equal_of (g.own y) i (sym (s.owned y) ∙ (ap (λ n. n == i) is ∙ equal_self i))) ∙ e))
              ∙ s.region.slots y is;
          sessions = record {
            there = λ k u e. within_kept i (s.f k) ne ∙ s.region.sessions.there k u e;
            back = λ m u e. s.region.sessions.back m u (sym (within_kept i m ne) ∙ e);
            single = s.region.sessions.single;
          };
          requests = among_kept i ne ∙ s.region.requests;
        };
        wrote = λ y is. s.wrote y is
            ∙ sym (wrote_kept y (equal_of (g.own y) i (sym (s.owned y) ∙ (ap (λ n. n == i) is ∙ equal_self i))));
      }
