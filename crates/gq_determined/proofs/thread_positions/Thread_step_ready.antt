-- Before a step: a leaf that is not shared and takes its first request becomes the thread's. Where the thread has the same in two worlds, it has the same then.
use Rattle.std.proofs.Common.{◌≡◌, ◌≢◌, ◌⊎◌, ℕ, ◌==◌, ◌&&◌, ◌||◌, not, inl, inr, Bool, true, false, cond, List, map, Option, Some, None}
use Rattle.std.proofs.Common.{refl, ap, sym, ◌∙◌, subst}
use Rattle.std.specs.Prelude.{option_map, slice_get}
use Rattle.std.proofs.lemmas.Bool.{true≢false}
use Rattle.std.proofs.lemmas.Bool.Decides.{eqb_tells}
use Rattle.gq_model.specs.declared.phase.Phase.TheVariants.{Serving}
use Rattle.gq_model.specs.machine.Scenario.{System}
use Rattle.gq_model.specs.machine.World.{Session, Request, Current, Signal, Leaf, session_at}
use Rattle.gq_model.specs.machine.Step.{oldest, first_signal}
use Rattle.std.specs.Prelude.{is_some}
use Rattle.gq_model.proofs.Small_facts.{some_same, equal_self}
use Rattle.gq_laws.specs.Session_links.{stance, stance_in}
use Rattle.gq_laws.specs.Renamed.{renamed_slot, renamed_request, renamed_session}
use Rattle.gq_determined.specs.internal.Threads.{is_unshared, Tracked, thread_by, who, moved, given, first_of, first_by}
use Rattle.gq_determined.specs.internal.Threads.{Accepts, has_work, works, works_for, within, slots_of, IsSameRegion, IsSameThread}
use Rattle.gq_determined.proofs.regions.Region_changes.{within_there, within_here}
use Rattle.gq_determined.proofs.regions.Renamed_regions.{region_renamed, at_renamed}
use Rattle.gq_determined.proofs.thread_positions.Single_thread_position.{IsPlaced, IsTracked, busy_below}
use Rattle.gq_determined.proofs.thread_positions.Turn_thread_position.{Steps, IsWorking, IsServing, ServesSame, own_at, who_is, same_place}
use Rattle.gq_determined.proofs.thread_positions.First_request_given.{moved_here, moved_else, equal_of, unequal, working_accepts, IsGiven, x_else}
use Rattle.gq_determined.proofs.thread_positions.First_request_given.{own_idle, own_new}
use Rattle.gq_determined.proofs.thread_positions.First_request_given.{same_works, same_among}

-- a leaf that takes up a request of the thread in one world does so in the other
module _ (u : System) (g h : Tracked) (t : IsPlaced u g) (th : IsPlaced u h) (i x : ℕ) (is : who g x ≡ Some i) (is_h : who h x ≡ Some i)
    (s : IsSameThread i g h) where
  pub serving_other : IsServing g i x → IsServing h i x
  serving_other p = by (same_place u g h t th i s x x is is_h).how
    where
      by : (IsWorking g i x × IsWorking h i x) ⊎ ServesSame u g h t th i s x → IsServing h i x
      by (inl w) = absurd (working_accepts w.0.at.leaf w.0.runs (subst Accepts (some_same (sym p.there ∙ w.0.at.there)) (p.serves, p.idle)))
      by (inr q) = q.other

  pub serving_back : IsServing h i x → IsServing g i x
  serving_back p = by (same_place u g h t th i s x x is is_h).how
    where
      by : (IsWorking g i x × IsWorking h i x) ⊎ ServesSame u g h t th i s x → IsServing g i x
      by (inl w) = absurd (working_accepts w.1.at.leaf w.1.runs (subst Accepts (some_same (sym p.there ∙ w.1.at.there)) (p.serves, p.idle)))
      by (inr q) = q.first

-- TWO WORLDS

-- what was of the leaf and what is of the thread are named together
module _ (u : System) (g h : Tracked) (t : IsPlaced u g) (th : IsPlaced u h) (i x : ℕ) (b : IsGiven u g i x) (d : IsGiven u h i x)
    (s : IsSameThread i g h) (sx : IsSameThread x g h) where
  abbrev g_given : Tracked
  g_given = given g x i true

  abbrev h_given : Tracked
  h_given = given h x i true

  both : ℕ → ℕ
  both k = cond (g.root k == i) (s.f k) (sx.f k)

  both_i : (k : ℕ) → g.root k ≡ i → both k ≡ s.f k
  unfolding both
  both_i k is = ap (λ b. cond b (s.f k) (sx.f k)) (ap (λ m. m == i) is ∙ equal_self i)

  both_x : (k : ℕ) → g.root k ≡ x → both k ≡ sx.f k
  unfolding both
  both_x k is = ap (λ b. cond b (s.f k) (sx.f k)) (unequal (g.root k) i (λ e. x_else u g t i x b (sym is ∙ e)))

  region_i : IsSameRegion both g.own g.root h.root i g.world h.world
  region_i = region_renamed u g t s.f both i (λ k q there is. both_i k is) h.root h.world s.region

  region_x : IsSameRegion both g.own g.root h.root x g.world h.world
  region_x = region_renamed u g t sx.f both x (λ k q there is. both_x k is) h.root h.world sx.region

  ne : x ≢ i
  ne = x_else u g t i x b

  -- which of both it was
  was : (f : ℕ → ℕ) (k : ℕ) → moved true x i f k ≡ i → (f k ≡ i) ⊎ (f k ≡ x)
  was f k e = elim (eqb_tells (f k) x) [ inl q ↦ inr q.1 | inr q ↦ inl (sym (moved_else x i f k q.1) ∙ e) ]

  from_i : (f : ℕ → ℕ) (k : ℕ) → f k ≡ i → moved true x i f k ≡ i
  from_i f k e = moved_else x i f k (λ q. ne (sym q ∙ e)) ∙ e

  from_x : (f : ℕ → ℕ) (k : ℕ) → f k ≡ x → moved true x i f k ≡ i
  from_x f k e = moved_here x i f k e

  -- a number is moved to the thread where it was of one of both
  either : (f : ℕ → ℕ) (k : ℕ) → (moved true x i f k == i) ≡ (f k == i || f k == x)
  either f k = elim (eqb_tells (f k) x) [
    | inl q ↦
        ap (λ a. a == i) (from_x f k q.1)
        ∙ (equal_self i ∙ sym (ap (λ a. f k == i || a) q.0 ∙ or_true (f k == i)))
    | inr q ↦
        ap (λ a. a == i) (moved_else x i f k q.1)
        ∙ sym (ap (λ a. f k == i || a) q.0 ∙ or_none (f k == i))
  ]
    where
      or_true : (a : Bool) → (a || true) ≡ true
      or_true true = refl
      or_true false = refl

      or_none : (a : Bool) → (a || false) ≡ a
      or_none true = refl
      or_none false = refl

  -- a session of either region
  there_both : (k : ℕ) (q : Session) → within g_given.root i g.world.sessions k ≡ Some q
      → within h_given.root i h.world.sessions (both k) ≡ Some (renamed_session both q)
  there_both k q e =
      let o = within_there g_given.root i g.world.sessions k q e in
      elim (was g.root k o.0) [
        | inl is ↦
            let p = within_there h.root i h.world.sessions (both k) (renamed_session both q)
            (region_i.sessions.there k q (within_here g.root i g.world.sessions k is ∙ o.1)) in
            within_here h_given.root i h.world.sessions (both k) (from_i h.root (both k) p.0) ∙ p.1
        | inr is ↦
            let p = within_there h.root x h.world.sessions (both k) (renamed_session both q)
            (region_x.sessions.there k q (within_here g.root x g.world.sessions k is ∙ o.1)) in
            within_here h_given.root i h.world.sessions (both k) (from_x h.root (both k) p.0) ∙ p.1
      ]

  back_both : (k : ℕ) (q : Session) → within h_given.root i h.world.sessions k ≡ Some q
      → (j : ℕ) × (r : Session) × (within g_given.root i g.world.sessions j ≡ Some r) × (both j ≡ k)
  back_both k q e =
      let o = within_there h_given.root i h.world.sessions k q e in
      elim (was h.root k o.0) [
        | inl is ↦
            let p = region_i.sessions.back k q (within_here h.root i h.world.sessions k is ∙ o.1) in
            let r = within_there g.root i g.world.sessions p.0 p.1 p.2 in
            (p.0, p.1, within_here g_given.root i g.world.sessions p.0 (from_i g.root p.0 r.0) ∙ r.1, p.3)
        | inr is ↦
            let p = region_x.sessions.back k q (within_here h.root x h.world.sessions k is ∙ o.1) in
            let r = within_there g.root x g.world.sessions p.0 p.1 p.2 in
            (p.0, p.1, within_here g_given.root i g.world.sessions p.0 (from_x g.root p.0 r.0) ∙ r.1, p.3)
      ]

  -- the region in which a session is in the other world
  of_i : (k : ℕ) (q : Session) → g.root k ≡ i → session_at g.world k ≡ Some q → h.root (both k) ≡ i
  of_i k q is at = (within_there h.root i h.world.sessions (both k) (renamed_session both q)
      (region_i.sessions.there k q (within_here g.root i g.world.sessions k is ∙ at))).0

  of_x : (k : ℕ) (q : Session) → g.root k ≡ x → session_at g.world k ≡ Some q → h.root (both k) ≡ x
  of_x k q is at = (within_there h.root x h.world.sessions (both k) (renamed_session both q)
      (region_x.sessions.there k q (within_here g.root x g.world.sessions k is ∙ at))).0

  single_both : (j k : ℕ) (q r : Session) → within g_given.root i g.world.sessions j ≡ Some q → within g_given.root i g.world.sessions k ≡ Some r
      → both j ≡ both k
      → j ≡ k
  single_both j k q r e f same = by (was g.root j p.0) (was g.root k o.0)
    where
      p : (g_given.root j ≡ i) × (session_at g.world j ≡ Some q)
      p = within_there g_given.root i g.world.sessions j q e

      o : (g_given.root k ≡ i) × (session_at g.world k ≡ Some r)
      o = within_there g_given.root i g.world.sessions k r f

      by : (g.root j ≡ i) ⊎ (g.root j ≡ x) → (g.root k ≡ i) ⊎ (g.root k ≡ x) → j ≡ k
      by (inl a) (inl c) =
          region_i.sessions.single j k q r (within_here g.root i g.world.sessions j a ∙ p.1) (within_here g.root i g.world.sessions k c ∙ o.1) same
      by (inr a) (inr c) =
          region_x.sessions.single j k q r (within_here g.root x g.world.sessions j a ∙ p.1) (within_here g.root x g.world.sessions k c ∙ o.1) same
      by (inl a) (inr c) = absurd (ne (sym (of_x k r c o.1) ∙ (ap h.root (sym same) ∙ of_i j q a p.1)))
      by (inr a) (inl c) = absurd (ne (sym (of_x j q a p.1) ∙ (ap h.root same ∙ of_i k r c o.1)))

  slots_both : (y : ℕ) → g_given.own y ≡ i
      → option_map slots_of (slice_get h.world.leaves y) ≡ option_map (λ leaf. map (renamed_slot both) (slots_of leaf)) (slice_get g.world.leaves y)
  slots_both y is = elim (was g.own y is) [ inl a ↦ region_i.slots y a | inr a ↦ region_x.slots y a ]

  current_i : (y : ℕ) → works g i y ≡ true → (l : Leaf) (q : Current) → slice_get g.world.leaves y ≡ Some l → l.current ≡ Some q → g.root q.session ≡ i
  current_i y is l q at current =
      sym (ap (thread_by g.root y) current) ∙ equal_of (thread_by g.root y l.current) i
      (second (has_work l.phase (first_signal l.signals)) _ (sym (ap (works_for g.root i y) at) ∙ is))
    where
      second : (a c : Bool) → (a && c) ≡ true → c ≡ true
      second true c e = e
      second false c e = absurd cc

  pub given_both : IsSameThread i g_given h_given
  given_both = record {
    f = both;
    owned = λ y. either g.own y ∙ ((λ e. s.owned y e || sx.owned y e) ∙ sym (either h.own y));
    leaves = λ y. same_works u g t i x b i y ∙ (s.leaves y ∙ sym (same_works u h th i x d i y));
    alike = λ y is. (
        let works_g = sym (same_works u g t i x b i y) ∙ is in
        at_renamed u g t s.f both y h.world (λ l q at current. both_i q.session (current_i y works_g l q at current)) (s.alike y works_g));
    region = record {
      slots = slots_both;
      sessions = record { there = there_both; back = back_both; single = single_both };
      requests = same_among u h th i x d i ∙ (region_i.requests ∙ ap (map (renamed_request both)) (sym (same_among u g t i x b i)));
    };
    wrote = λ y is. elim (was g.own y is) [ inl a ↦ s.wrote y a | inr a ↦ sx.wrote y a ];
  }

-- BEFORE A STEP

pub record Readies (u : System) (g : Tracked) (i x : ℕ) (o : Bool) : Type 0 where
  pub here : o ≡ true → IsGiven u g i x
  -- where it becomes the thread's it is not shared, and was not
  pub single : o ≡ true → is_unshared u x ≡ true
  pub other : o ≡ true → g.own x ≢ i
  -- a leaf that is not shared is of the thread whose request it takes
  pub taken : (leaf : Leaf) → slice_get g.world.leaves x ≡ Some leaf → Accepts leaf → is_unshared u x ≡ true → o ≡ false → g.own x ≡ i

pub readies : (u : System) (g : Tracked) → IsTracked u g → (i x : ℕ) → who g x ≡ Some i → Readies u g i x (first_by u g x i (slice_get g.world.leaves x))
readies u g t i x is = by (who_is g i x is)
  where
    working : (leaf : Leaf) (found : Option (Request × List Request)) → Steps leaf → first_of u g x i leaf.phase (first_signal leaf.signals) found ≡ false
    working leaf found (inl (inl e)) = ap (λ p. first_of u g x i p (first_signal leaf.signals) found) e
    working leaf found (inl (inr e)) = ap (λ p. first_of u g x i p (first_signal leaf.signals) found) e
    working leaf found (inr e) = ap (λ p. first_of u g x i p (first_signal leaf.signals) found) e.0 ∙ of (first_signal leaf.signals) e.1
      where
        of : (s : Option (ℕ × List Signal)) → is_some s ≡ true → first_of u g x i Serving s found ≡ false
        of None e = absurd (true≢false (sym e))
        of (Some s) e = refl

    none : (o : Bool) → o ≡ false → ((leaf : Leaf) → slice_get g.world.leaves x ≡ Some leaf → Accepts leaf → ⊥) → Readies u g i x o
    none o e busy = record {
      here = λ f. absurd (true≢false (sym f ∙ e));
      single = λ f. absurd (true≢false (sym f ∙ e));
      other = λ f. absurd (true≢false (sym f ∙ e));
      taken = λ leaf there serves single f. absurd (busy leaf there serves);
    }

    by : IsWorking g i x ⊎ IsServing g i x → Readies u g i x (first_by u g x i (slice_get g.world.leaves x))
    by (inl w) = none _ (ap (first_by u g x i) w.at.there ∙ working w.at.leaf (oldest g.world x g.world.requests) w.runs)
        (λ leaf there accepts. working_accepts w.at.leaf w.runs (subst Accepts (some_same (sym there ∙ w.at.there)) accepts))
    by (inr p) = subst (Readies u g i x) (sym is_first) (of (is_unshared u x) (g.own x == i) refl refl)
      where
        is_first : first_by u g x i (slice_get g.world.leaves x) ≡ (is_unshared u x && not (g.own x == i))
        is_first =
            ap (first_by u g x i) p.there
            ∙ (ap (λ q. first_of u g x i q (first_signal p.leaf.signals) (oldest g.world x g.world.requests)) p.serves
            ∙ ((λ j. first_of u g x i Serving (p.idle j) (p.found j))))

        of : (a c : Bool) → is_unshared u x ≡ a → (g.own x == i) ≡ c → Readies u g i x (a && not c)
        of true true single own = record {
          here = λ f. absurd (true≢false (sym f));
          single = λ f. absurd (true≢false (sym f));
          other = λ f. absurd (true≢false (sym f));
          taken = λ leaf there serves unshared none. equal_of (g.own x) i own;
        }
        of true false single own = record {
          here = λ f. record { serving = p; idle = own_idle u g t i x p single (λ e. true≢false (sym (ap (λ m. m == i) e ∙ equal_self i) ∙ own)) };
          single = λ f. single;
          other = λ f e. true≢false (sym (ap (λ m. m == i) e ∙ equal_self i) ∙ own);
          taken = λ leaf there serves unshared none. absurd (true≢false none);
        }
        of false c single own = record {
          here = λ f. absurd (true≢false (sym f));
          single = λ f. absurd (true≢false (sym f));
          other = λ f. absurd (true≢false (sym f));
          taken = λ leaf there serves unshared none. absurd (true≢false (sym unshared ∙ single));
        }

-- a leaf that takes a step is its own, or the thread's
pub own_who : (u : System) (g : Tracked) → IsTracked u g → (i x : ℕ) → who g x ≡ Some i → Readies u g i x false → (g.own x ≡ x) ⊎ (g.own x ≡ i)
own_who u g t i x is r = by (who_is g i x is)
  where
    shared : is_unshared u x ≡ false → g.own x ≡ x
    shared e = elim (eqb_tells (g.own x) x) [ inl q ↦ q.1 | inr q ↦ absurd (true≢false (sym (t.owned.opened x q.1).single ∙ e)) ]

    of : (l : Leaf) → slice_get g.world.leaves x ≡ Some l → has_work l.phase (first_signal l.signals) ≡ true → (current : Option Current)
        → l.current ≡ current → thread_by g.root x current ≡ i → (single : Bool) → is_unshared u x ≡ single → (g.own x ≡ x) ⊎ (g.own x ≡ i)
    of l at act None none is single e = inl (own_at u g t.placed x l at none act)
    of l at act (Some q) some is true e =
        inr (busy_below u g t x l.phase q (ap stance_in at ∙ ap (λ o. Some (stance l.phase o)) some) e ∙ is)
    of l at act (Some q) some is false e = inl (shared e)

    serves : (p : IsServing g i x) (single : Bool) → is_unshared u x ≡ single → (g.own x ≡ x) ⊎ (g.own x ≡ i)
    serves p true e = inr (r.taken p.leaf p.there (p.serves, p.idle) e refl)
    serves p false e = inl (shared e)

    by : IsWorking g i x ⊎ IsServing g i x → (g.own x ≡ x) ⊎ (g.own x ≡ i)
    by (inl w) = of w.at.leaf w.at.there w.at.has_work w.at.leaf.current refl w.at.thread (is_unshared u x) refl
    by (inr p) = serves p (is_unshared u x) refl

-- BOTH, BEFORE A STEP

-- the thread has the same, and so has the leaf that takes the step, if it is not the thread's
pub record BothReady (i x : ℕ) (g h : Tracked) : Type 0 where
  pub thread : IsSameThread i g h
  pub leaf : g.own x ≢ i → IsSameThread (g.own x) g h

module _ (u : System) (g h : Tracked) (t : IsTracked u g) (th : IsTracked u h) (i x : ℕ) (is : who g x ≡ Some i) (is_h : who h x ≡ Some i)
    (s : IsSameThread i g h) (ends : x ≢ i → g.own x ≡ x → h.own x ≡ x → IsSameThread x g h) where
  reported : g.own x ≡ i → h.own x ≡ i
  reported e = equal_of (h.own x) i (sym (s.owned x) ∙ (ap (λ m. m == i) e ∙ equal_self i))

  reported_back : h.own x ≡ i → g.own x ≡ i
  reported_back e = equal_of (g.own x) i (s.owned x ∙ (ap (λ m. m == i) e ∙ equal_self i))

  -- a leaf of its own
  leaf_own : Readies u g i x false → Readies u h i x false → g.own x ≢ i → IsSameThread (g.own x) g h
  leaf_own r q ne = by (own_who u g t i x is r) (own_who u h th i x is_h q)
    where
      by : (g.own x ≡ x) ⊎ (g.own x ≡ i) → (h.own x ≡ x) ⊎ (h.own x ≡ i) → IsSameThread (g.own x) g h
      by (inr e) o = absurd (ne e)
      by (inl e) (inr o) = absurd (ne (reported_back o))
      by (inl e) (inl o) = subst (λ z. IsSameThread z g h) (sym e) (ends (λ same. ne (e ∙ same)) e o)

  pub both_ready : (o p : Bool) → Readies u g i x o → Readies u h i x p → BothReady i x (given g x i o) (given h x i p)
  both_ready false false r q = record { thread = s; leaf = leaf_own r q }
  both_ready true false r q =
      let b = r.here refl in
      let p = serving_other u g h t.placed th.placed i x is is_h s b.serving in
      absurd (r.other refl (reported_back (q.taken p.leaf p.there (p.serves, p.idle) (r.single refl) refl)))
  both_ready false true r q =
      let d = q.here refl in
      let p = serving_back u g h t.placed th.placed i x is is_h s d.serving in
      absurd (q.other refl (reported (r.taken p.leaf p.there (p.serves, p.idle) (q.single refl) refl)))
  both_ready true true r q =
      let b = r.here refl in
      let d = q.here refl in
      record {
        thread = given_both u g h t.placed th.placed i x b d s (ends (x_else u g t.placed i x b) b.idle d.idle);
        leaf = λ ne. absurd (ne (own_new u g t.placed i x b));
      }
