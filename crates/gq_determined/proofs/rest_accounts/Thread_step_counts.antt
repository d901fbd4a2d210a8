-- The steps that a leaf has taken are those among what all threads have shown.
use Rattle.std.proofs.Common.{◌≡◌, ◌<◌, ◌≤◌, ◌||◌, inl, inr, ℕ, zero, suc, ◌+◌, ◌==◌, Bool, true, false, cond, List, [], ◌∷◌, ◌++◌, length, map, Option, Some}
use Rattle.std.proofs.Common.{None}
use Rattle.std.proofs.Common.{refl, ap, sym, ◌∙◌, subst, arith}
use Rattle.std.specs.Prelude.{is_some, option_map, slice_get, slice_index, slice_set}
use Rattle.std.proofs.lemmas.Bool.{true≢false}
use Rattle.std.proofs.lemmas.Bool.Decides.{eqb_tells}
use Rattle.std.proofs.lemmas.Option.{get_or_from_slice_get, slice_get-map}
use Rattle.gq_model.specs.declared.phase.Phase.{Phase}
use Rattle.gq_model.specs.declared.phase.Phase.TheVariants.{Pending, Running, Blocked, Serving, Handling, Exited}
use Rattle.gq_model.specs.machine.Scenario.{Scenario, System, system}
use Rattle.gq_model.specs.machine.World.{Request, Signal, Leaf, World}
use Rattle.gq_model.specs.machine.Doing.{Event}
use Rattle.gq_model.specs.machine.Step.{oldest, first_signal}
use Rattle.gq_model.proofs.Small_facts.{none_some, some_same}
use Rattle.gq_laws.specs.Sound_scenarios.{IsSound}
use Rattle.gq_model.specs.machine.Rest.{can_run, runs, runs_as}
use Rattle.gq_laws.specs.Turn_effects.{steps_of}
use Rattle.gq_laws.specs.internal.Uncounted.{uncounted}
use Rattle.gq_laws.proofs.session_links.Written_world_links.{set_else}
use Rattle.gq_laws.proofs.step_shapes.Step_counting.{counts_steps}
use Rattle.gq_races.specs.Races.{IsRaceFree}
use Rattle.gq_determined.specs.internal.Thread_machines.{is_for}
use Rattle.gq_determined.specs.internal.Threads.{Tracked, who, who_of, who_by, asker, served_for, thread_by, works, works_for, tracked_after, shown_by, shows}
use Rattle.gq_determined.specs.internal.Threads.{events_of}
use Rattle.gq_determined.specs.internal.Threads.{stepped_to, ready, turn_for}
use Rattle.gq_determined.proofs.regions.Region_changes.{set_at}
use Rattle.gq_determined.proofs.thread_runs.Thread_run_determinism.{are_threads}
use Rattle.gq_determined.proofs.thread_runs.Sound_runs.{IsFirst, all_pay, all_stand, goes_by, good, placed, within}

-- SUMS

abbrev pub sum_to : (ℕ → ℕ) → ℕ → ℕ
sum_to f zero = 0
sum_to f (suc n) = f n + sum_to f n

sum_zero : (n : ℕ) → sum_to (λ j. 0) n ≡ 0
sum_zero zero = refl
sum_zero (suc n) = let h = sum_zero n in omega (arith, h)

pub sum_same : (f g : ℕ → ℕ) (n : ℕ) → ((j : ℕ) → f j ≡ g j) → sum_to f n ≡ sum_to g n
sum_same f g zero h = refl
sum_same f g (suc n) h = λ i. h n i + sum_same f g n h i

sum_both : (f g : ℕ → ℕ) (n : ℕ) → sum_to (λ j. f j + g j) n ≡ sum_to f n + sum_to g n
sum_both f g zero = refl
sum_both f g (suc n) = let h = sum_both f g n in omega (arith, h)

-- a sum of which one term is not 0
sum_past : (c i n : ℕ) → n ≤ i → sum_to (λ j. cond (i == j) c 0) n ≡ 0
sum_past c i zero h = refl
sum_past c i (suc n) h = elim (eqb_tells i n) [
  | inl e ↦ absurd (omega (arith, h, e.1))
  | inr e ↦
      let further = sum_past c i n (omega (arith, h)) in
      let here = ap (λ b. cond b c 0) e.0 in
      omega (arith, here, further)
]

sum_one : (c i n : ℕ) → i < n → sum_to (λ j. cond (i == j) c 0) n ≡ c
sum_one c i zero h = absurd (omega (arith, h))
sum_one c i (suc n) h = elim (eqb_tells i n) [
  | inl e ↦
      let further = sum_past c i n (omega (arith, e.1)) in
      let here = ap (λ b. cond b c 0) e.0 in
      omega (arith, here, further)
  | inr e ↦
      let less : i < n = omega (arith, h, e.1) in
      let further = sum_one c i n less in
      let here = ap (λ b. cond b c 0) e.0 in
      omega (arith, here, further)
]

-- STEPS THAT ARE SHOWN

abbrev pub counted : ℕ → List (ℕ × Event) → ℕ
counted x [] = 0
counted x (e ∷ rest) = cond (e.0 == x) 1 0 + counted x rest

counted_more : (x : ℕ) (a b : List (ℕ × Event)) → counted x (a ++ b) ≡ counted x a + counted x b
counted_more x [] b = omega arith
counted_more x (e ∷ a) b = let h = counted_more x a b in omega (arith, h)

-- one number of a list is raised
raised_here : (l : List ℕ) (x k : ℕ) → slice_get (slice_set l x (suc (slice_index l x))) x ≡ Some k → (n : ℕ) × (slice_get l x ≡ Some n) × (k ≡ suc n)
raised_here l x k e = by (slice_get l x) refl
  where
    by : (o : Option ℕ) → slice_get l x ≡ o → (n : ℕ) × (slice_get l x ≡ Some n) × (k ≡ suc n)
    by None at = absurd (none_some (sym (ap (option_map (λ b. suc (slice_index l x))) at) ∙ (sym (set_at l x (suc (slice_index l x))) ∙ e)))
    by (Some n) at =
        let same : suc (slice_index l x) ≡ k
        = some_same (sym (ap (option_map (λ b. suc (slice_index l x))) at) ∙ (sym (set_at l x (suc (slice_index l x))) ∙ e)) in
        (n, at, sym same ∙ ap suc (get_or_from_slice_get l x n 0 at))

raised_at : (l : List ℕ) (y x k : ℕ) → slice_get (slice_set l y (suc (slice_index l y))) x ≡ Some k
    → (n : ℕ) × (slice_get l x ≡ Some n) × (k ≡ n + cond (y == x) 1 0)
raised_at l y x k e = elim (eqb_tells y x) [
  | inl q ↦
      let h = raised_here l x k (subst (λ z. slice_get (slice_set l z (suc (slice_index l z))) x ≡ Some k) q.1 e) in
      (h.0, h.1, h.2 ∙ one h.0 (y == x) q.0)
  | inr q ↦ (k, sym (set_else l y x (suc (slice_index l y)) (λ r. q.1 (sym r))) ∙ e, none k (y == x) q.0)
]
  where
    one : (n : ℕ) (b : Bool) → b ≡ true → suc n ≡ n + cond b 1 0
    one n true e = omega arith
    one n false e = absurd cc

    none : (n : ℕ) (b : Bool) → b ≡ false → n ≡ n + cond b 1 0
    none n false e = omega arith
    none n true e = absurd cc

-- the number of steps of a leaf is that in the list
steps_in : (leaves : List Leaf) (x : ℕ) (leaf : Leaf) → slice_get leaves x ≡ Some leaf → slice_get (map (λ (l : Leaf). l.steps) leaves) x ≡ Some leaf.steps
steps_in leaves x leaf e = slice_get-map (λ (l : Leaf). l.steps) leaves x ∙ ap (option_map (λ (l : Leaf). l.steps)) e

steps_out : (leaves : List Leaf) (x n : ℕ) → slice_get (map (λ (l : Leaf). l.steps) leaves) x ≡ Some n → (leaf : Leaf) × (slice_get leaves x ≡ Some leaf)
    × (leaf.steps ≡ n)
steps_out leaves x n e = by (slice_get leaves x) refl
  where
    by : (o : Option Leaf) → slice_get leaves x ≡ o → (leaf : Leaf) × (slice_get leaves x ≡ Some leaf) × (leaf.steps ≡ n)
    by None at = absurd (none_some (sym (ap (option_map (λ (l : Leaf). l.steps)) at) ∙ (sym (slice_get-map (λ (l : Leaf). l.steps) leaves x) ∙ e)))
    by (Some leaf) at = (leaf, at, some_same (sym (steps_in leaves x leaf at) ∙ e))

-- RUNS

module _ (s : Scenario) (sound : IsSound s) (w : World) (root : ℕ → ℕ) (first : IsFirst s w root) (none : IsRaceFree s) where
  abbrev u : System
  u = uncounted (system s)

  abbrev at : List ℕ → Tracked
  at = tracked_after u w root

  -- what it shows in these turns
  abbrev shown_in : ℕ → List ℕ → List (ℕ × Event)
  shown_in = shown_by u w root

  abbrev count : ℕ
  count = length u.components

  -- the steps of a leaf that all threads have shown
  abbrev pub total : ℕ → List ℕ → ℕ
  total x a = sum_to (λ j. counted x (shown_in j a)) count

  -- a turn is for a thread whose leaf is there
  few : (a : List ℕ) (y i : ℕ) → who (at a) y ≡ Some i → i < count
  few a y i is = by (works (at a) i i) refl
    where
      there : (o : Option Leaf) → slice_get (at a).world.leaves i ≡ o → works_for (at a).root i i o ≡ true → i < count
      there None at_i e = absurd (true≢false (sym e))
      there (Some leaf) at_i e =
          let same = (all_stand s sound w root first a).whole.count in
          let less = within s sound (at a).world.leaves i leaf at_i in
          omega (arith, same, less)

      by : (b : Bool) → works (at a) i i ≡ b → i < count
      by true e = there (slice_get (at a).world.leaves i) refl e
      by false e = absurd ((are_threads u (all_pay (system s)) w root (good s sound w root first none)).stops i a y e is)

  -- who takes a step can run
  runs_there : (a : List ℕ) (y i : ℕ) → who (at a) y ≡ Some i → can_run u (at a).world y ≡ true
  runs_there a y i is = by (slice_get (at a).world.leaves y) refl is
    where
      asks : (o : Option (Request × List Request)) → asker (at a).root o ≡ Some i → is_some o ≡ true
      asks None e = absurd (none_some e)
      asks (Some p) e = refl

      serves : (itself : ℕ) (s : Option (ℕ × List Signal)) (o : Option (Request × List Request)) → served_for (at a).root itself s o ≡ Some i
          → (is_some s || is_some o) ≡ true
      serves itself None o e = asks o e
      serves itself (Some s) o e = refl

      of : (l : Leaf) (p : Phase) → who_by (at a) y l.current l.signals p ≡ Some i → runs (at a).world y l p ≡ true
      of l Running e = refl
      of l Handling e = refl
      of l Serving e = serves (thread_by (at a).root y l.current) (first_signal l.signals) (oldest (at a).world y (at a).world.requests) e
      of l Pending e = absurd (none_some e)
      of l Blocked e = absurd (none_some e)
      of l Exited e = absurd (none_some e)

      by : (o : Option Leaf) → slice_get (at a).world.leaves y ≡ o → who_of (at a) y o ≡ Some i → can_run u (at a).world y ≡ true
      by None e is = absurd (none_some is)
      by (Some l) e is =
          let c = placed s sound w root first a y l e in
          (λ j. runs_as (at a).world y (c.1 j) (e j)) ∙ of l l.phase is

  -- a turn adds one for its leaf
  turn_total : (x y : ℕ) (a : List ℕ) (i : ℕ) → who (at a) y ≡ Some i → total x (y ∷ a) ≡ total x a + cond (y == x) 1 0
  turn_total x y a i is =
      let p = goes_by s sound (at a).world y (all_stand s sound w root first a) in
      sum_same (λ j. counted x (shown_in j (y ∷ a))) (λ j. counted x (shown_in j a) + cond (i == j) (cond (y == x) 1 0) 0) count
      (λ j. counted_more x (shown_in j a) (cond (is_for j (who (at a) y)) (shows u (at a) y) [])
      ∙ ap (λ n. counted x (shown_in j a) + n) ((λ k. counted x (cond (is_for j (is k)) (events_of y (p.1 k)) [])) ∙ one (i == j) p.0.1))
      ∙ (sum_both (λ j. counted x (shown_in j a)) (λ j. cond (i == j) (cond (y == x) 1 0) 0) count
      ∙ ap (λ n. total x a + n) (sum_one (cond (y == x) 1 0) i count (few a y i is)))
    where
      one : (b : Bool) (e : Event) → counted x (cond b ((y, e) ∷ []) []) ≡ cond b (cond (y == x) 1 0) 0
      one true e = omega arith
      one false e = refl

  idle_total : (x y : ℕ) (a : List ℕ) → who (at a) y ≡ None → total x (y ∷ a) ≡ total x a
  idle_total x y a is =
      sum_same (λ j. counted x (shown_in j (y ∷ a))) (λ j. counted x (shown_in j a)) count
      (λ j. counted_more x (shown_in j a) (cond (is_for j (who (at a) y)) (shows u (at a) y) [])
      ∙ (ap (λ o. counted x (shown_in j a) + counted x (cond (is_for j o) (shows u (at a) y) [])) is ∙ omega arith))

  pub steps_total : (a : List ℕ) (x : ℕ) (old leaf : Leaf) → slice_get w.leaves x ≡ Some old → slice_get (at a).world.leaves x ≡ Some leaf
      → leaf.steps ≡ old.steps + total x a
  steps_total [] x old leaf was there =
      let same = ap (λ (l : Leaf). l.steps) (some_same (sym there ∙ was)) in let none = sum_zero count in omega (arith, same, none)
  steps_total (y ∷ a) x first_leaf leaf was there = by (λ l. steps_total a x first_leaf l was) (who (at a) y) refl there
    where
      by : ((l : Leaf) → slice_get (at a).world.leaves x ≡ Some l → l.steps ≡ first_leaf.steps + total x a) → (o : Option ℕ) → who (at a) y ≡ o
          → slice_get (turn_for u (at a) y o).world.leaves x ≡ Some leaf → leaf.steps ≡ first_leaf.steps + total x (y ∷ a)
      by further None is there = let was = further leaf there in let still = idle_total x y a is in omega (arith, was, still)
      by further (Some i) is there =
          let p = goes_by s sound (at a).world y (all_stand s sound w root first a) in
          let now = subst (λ r. slice_get (stepped_to (ready u (at a) y i) y i r).world.leaves x ≡ Some leaf) p.1 there in
          let raised = counts_steps u (at a).world y p.0.0 p.0.1 (runs_there a y i is) p.1 in
          let l = raised_at (steps_of (at a).world) y x leaf.steps (ap (λ n. slice_get n x) (sym raised) ∙ steps_in p.0.0.leaves x leaf now) in
          let old = steps_out (at a).world.leaves x l.0 l.1 in
          let before = further old.0 old.1 in
          let after = turn_total x y a i is in
          let same = old.2 in
          let more = l.2 in
          omega (arith, before, after, same, more)
