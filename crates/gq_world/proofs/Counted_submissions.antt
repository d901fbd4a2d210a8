-- How often signals were submitted, at least, and what the steps of a leaf are then at most.
use Rattle.std.proofs.Common.{◌≡◌, ◌∙◌, ℕ, zero, suc, ◌+◌, ◌*◌, ◌≤◌, Bool, true, false, cond, ◌&&◌, List, [], ◌∷◌, map, replicate}
use Rattle.std.proofs.Common.{Option, Some, None, Ok, refl, ap, sym, subst, arith, option_map}
use Rattle.std.specs.Prelude.{slice_get, slice_set, if◌then◌else◌}
use Rattle.std.proofs.lemmas.Bool.Decides.{nat_tests}
use Rattle.std.proofs.lemmas.Option.{slice_get-map}
use Rattle.gq_model.specs.machine.Doing.{Event, Idle, Stepped}
use Rattle.gq_model.specs.machine.Lists.{all_of}
use Rattle.gq_model.specs.machine.Rest.{can_run, runs_as}
use Rattle.gq_model.specs.machine.Run.{set_input, set_in, signals_with, submit, submit_in, is_within, inputs_with}
use Rattle.gq_model.specs.machine.Scenario.{Component, System, system}
use Rattle.gq_model.specs.machine.Step.{first_signal, later_signal, next}
use Rattle.gq_model.specs.machine.Step_budgets.{StepBudget, reaction_steps, steps_in, taken_steps}
use Rattle.gq_model.specs.machine.World.{Leaf, Signal, World, with_leaf, start, start_leaves}
use Rattle.gq_model.specs.declared.phase.Phase.{Phase}
use Rattle.gq_model.specs.declared.phase.Phase.TheVariants.{Pending, Running, Blocked, Serving, Handling, Exited}
use Rattle.gq_model.specs.rules.Accept.{are_small, is_small}
use Rattle.gq_model.proofs.Small_facts.{some_same, none_some}
use Rattle.gq_laws.specs.Turn_effects.{StandsStill, signals_if, signals_of, signals_then}
use Rattle.gq_laws.proofs.step_shapes.Step_counting.{map_set, takes_signals}
use Rattle.gq_world.specs.internal.World_invariant.{all_submitted, submitted_in}

-- A SIGNAL TAKEN

later_same : (s : Signal) (rest : List Signal) (o : Option (ℕ × List Signal)) (p : ℕ × List Signal)
    → ((q : ℕ × List Signal) → o ≡ Some q → submitted_in q.1 ≡ submitted_in rest) → later_signal s o ≡ Some p → submitted_in p.1 ≡ submitted_in (s ∷ rest)
later_same s rest None p h e = absurd (none_some e)
later_same s rest (Some q) p h e =
    subst (λ (r : ℕ × List Signal). submitted_in r.1 ≡ submitted_in (s ∷ rest)) (some_same e)
    (ap (λ n. (s.taken + (if s.submitted then 1 else 0)) + n) (h q refl))

first_by : (b : Bool) (s : Signal) (rest : List Signal) (p : ℕ × List Signal) → s.submitted ≡ b
    → ((q : ℕ × List Signal) → first_signal rest ≡ Some q → submitted_in q.1 ≡ submitted_in rest)
    → cond b (Some (0, record { submitted = false; taken = suc s.taken } ∷ rest)) (later_signal s (first_signal rest)) ≡ Some p
    → submitted_in p.1 ≡ submitted_in (s ∷ rest)
first_by true s rest p b h e =
    let counted : (suc s.taken + 0) + submitted_in rest ≡ (s.taken + (if true then 1 else 0)) + submitted_in rest = omega arith in
    subst (λ (r : ℕ × List Signal). submitted_in r.1 ≡ submitted_in (s ∷ rest)) (some_same e)
    (counted ∙ ap (λ (c : Bool). (s.taken + (if c then 1 else 0)) + submitted_in rest) (sym b))
first_by false s rest p b h e = later_same s rest (first_signal rest) p h e

-- taking the first signal that is submitted changes the number of none that was
taken_same : (signals : List Signal) (p : ℕ × List Signal) → first_signal signals ≡ Some p → submitted_in p.1 ≡ submitted_in signals
taken_same [] p e = absurd (none_some e)
taken_same (s ∷ rest) p e = first_by s.submitted s rest p refl (λ q. taken_same rest q) e

if_same : (signals : List Signal) (o : Option (ℕ × List Signal)) → first_signal signals ≡ o → submitted_in (signals_if signals o) ≡ submitted_in signals
if_same signals None e = refl
if_same signals (Some p) e = taken_same signals p e

then_same : (leaf : Leaf) (phase : Phase) → submitted_in (signals_then leaf phase) ≡ submitted_in leaf.signals
then_same leaf Pending = refl
then_same leaf Running = refl
then_same leaf Blocked = refl
then_same leaf Serving = if_same leaf.signals (first_signal leaf.signals) refl
then_same leaf Handling = refl
then_same leaf Exited = refl

-- STEPS

set_same : (all : List (List Signal)) (x : ℕ) (old new : List Signal) → slice_get all x ≡ Some old → submitted_in new ≡ submitted_in old
    → all_submitted (slice_set all x new) ≡ all_submitted all
set_same [] x old new e same = refl
set_same (s ∷ all) zero old new e same = ap (λ n. n + all_submitted all) (same ∙ ap submitted_in (sym (some_same e)))
set_same (s ∷ all) (suc x) old new e same = ap (λ n. submitted_in s + n) (set_same all x old new e same)

signals_at : (w : World) (x : ℕ) (leaf : Leaf) → slice_get w.leaves x ≡ Some leaf → slice_get (signals_of w) x ≡ Some leaf.signals
signals_at w x leaf e = slice_get-map (λ (l : Leaf). l.signals) w.leaves x ∙ ap (option_map (λ (l : Leaf). l.signals)) e

world_is : (p q : World × Event) → ◌≡◌ {A = Stepped} (Ok p) (Ok q) → p.0 ≡ q.0
world_is p q e = ap (λ (r : World × Event). r.0) (ok_same e)
  where
    ok_same : ◌≡◌ {A = Stepped} (Ok p) (Ok q) → p ≡ q
    ok_same e = cc

no_true : false ≡ true → ⊥
no_true e = cc

leaf_by : (w : World) (x : ℕ) (c : Option Component) (o : Option Leaf) → runs_as w x c o ≡ true → (leaf : Leaf) × (o ≡ Some leaf)
leaf_by w x (Some c) (Some leaf) e = (leaf, refl)
leaf_by w x (Some c) None e = absurd (no_true e)
leaf_by w x None o e = absurd (no_true e)

-- a step submits nothing
pub step_same : (system : System) (w : World) (x : ℕ) (new : World) (event : Event) → StandsStill system w x → next system w x ≡ Ok (new, event)
    → all_submitted (signals_of new) ≡ all_submitted (signals_of w)
step_same system w x new event still e = by (can_run system w x) refl
  where
    by : (b : Bool) → can_run system w x ≡ b → all_submitted (signals_of new) ≡ all_submitted (signals_of w)
    by true can =
        let leaf = leaf_by w x (slice_get system.components x) (slice_get w.leaves x) can in
        ap all_submitted (takes_signals system w x leaf.0 new event can leaf.1 e)
        ∙ set_same (signals_of w) x leaf.0.signals (signals_then leaf.0 leaf.0.phase) (signals_at w x leaf.0 leaf.1) (then_same leaf.0 leaf.0.phase)
    by false can = ap (λ (v : World). all_submitted (signals_of v)) (world_is (new, event) (w, Idle) (sym e ∙ still can))

-- SETTINGS AND SIGNALS

set_signals : (w : World) (x : ℕ) (leaf new : Leaf) → slice_get w.leaves x ≡ Some leaf → new.signals ≡ leaf.signals
    → all_submitted (signals_of (with_leaf w x new)) ≡ all_submitted (signals_of w)
set_signals w x leaf new e same =
    ap all_submitted (map_set (λ (l : Leaf). l.signals) w.leaves x new)
    ∙ set_same (signals_of w) x leaf.signals new.signals (signals_at w x leaf e) (ap submitted_in same)

by_within : (b : Bool) (w : World) (x : ℕ) (leaf new : Leaf) → slice_get w.leaves x ≡ Some leaf → new.signals ≡ leaf.signals
    → all_submitted (signals_of (if b then with_leaf w x new else w)) ≡ all_submitted (signals_of w)
by_within true w x leaf new e same = set_signals w x leaf new e same
by_within false w x leaf new e same = refl

set_in_same : (w : World) (x i n : ℕ) (c : Option Component) (o : Option Leaf) → slice_get w.leaves x ≡ o
    → all_submitted (signals_of (set_in w x i n c o)) ≡ all_submitted (signals_of w)
set_in_same w x i n (Some c) (Some leaf) e =
    by_within (is_within (slice_get c.node.inputs i) n) w x leaf (record leaf { inputs = inputs_with leaf.phase leaf.inputs i n }) e refl
set_in_same w x i n (Some c) None e = refl
set_in_same w x i n None o e = refl

-- a setting submits nothing
pub setting_same : (system : System) (w : World) (x i n : ℕ) → all_submitted (signals_of (set_input system w x i n)) ≡ all_submitted (signals_of w)
setting_same system w x i n = set_in_same w x i n (slice_get system.components x) (slice_get w.leaves x) refl

set_more : (all : List (List Signal)) (x : ℕ) (old new : List Signal) → slice_get all x ≡ Some old → submitted_in new ≤ suc (submitted_in old)
    → all_submitted (slice_set all x new) ≤ suc (all_submitted all)
set_more [] x old new e few = omega arith
set_more (s ∷ all) zero old new e few = let same = ap submitted_in (some_same e) in omega (arith, few, same)
set_more (s ∷ all) (suc x) old new e few = let more = set_more all x old new e few in omega (arith, more)

one_more : (b : Bool) (n m : ℕ) → (n + 1) + m ≤ suc ((n + (if b then 1 else 0)) + m)
one_more true n m = omega arith
one_more false n m = omega arith

signals_more : (signals : List Signal) (i : ℕ) → submitted_in (signals_with signals i) ≤ suc (submitted_in signals)
signals_more [] i = omega arith
signals_more (s ∷ rest) zero = one_more s.submitted s.taken (submitted_in rest)
signals_more (s ∷ rest) (suc i) = let more = signals_more rest i in omega (arith, more)

submit_by : (w : World) (x i : ℕ) (o : Option Leaf) → slice_get w.leaves x ≡ o
    → all_submitted (signals_of (submit_in w x i o)) ≤ suc (all_submitted (signals_of w))
submit_by w x i None e = omega arith
submit_by w x i (Some leaf) e =
    let new : Leaf = record leaf { signals = signals_with leaf.signals i } in
    let more = set_more (signals_of w) x leaf.signals new.signals (signals_at w x leaf e) (signals_more leaf.signals i) in
    subst (λ l. all_submitted l ≤ suc (all_submitted (signals_of w))) (sym (map_set (λ (l : Leaf). l.signals) w.leaves x new)) more

-- a signal submits one more at most
pub submit_more : (w : World) (x i : ℕ) → all_submitted (signals_of (submit w x i)) ≤ suc (all_submitted (signals_of w))
submit_more w x i = submit_by w x i (slice_get w.leaves x) refl

-- THE START

none_of : (n : ℕ) → submitted_in (replicate n (record { submitted = false; taken = 0 })) ≡ 0
none_of zero = refl
none_of (suc n) = ap (λ k. (0 + 0) + k) (none_of n)

none_in : (cs : List Component) → all_submitted (map (λ (l : Leaf). l.signals) (start_leaves cs)) ≡ 0
none_in [] = refl
none_in (c ∷ cs) =
    let here = none_of c.node.signals in
    let later = none_in cs in
    omega (arith, here, later)

pub none_at_start : (system : System) → all_submitted (signals_of (start system)) ≡ 0
none_at_start system = none_in system.components

-- STEPS

both_parts : (a b : Bool) → (a && b) ≡ true → (a ≡ true) × (b ≡ true)
both_parts true b e = (refl, e)
both_parts false b e = absurd (no_true e)

times_few : (n m : ℕ) → n ≤ m → (k : ℕ) → k * n ≤ m * k
times_few n m few zero = omega arith
times_few n m few (suc k) = let rest = times_few n m few k in omega (arith, few, rest)

taken_few : (signals : List Signal) (steps : List ℕ) → all_of is_small steps ≡ true → taken_steps signals steps ≤ 1000000000000 * submitted_in signals
taken_few [] steps e = omega arith
taken_few (s ∷ signals) [] e = omega arith
taken_few (s ∷ signals) (n ∷ steps) e =
    let parts = both_parts (is_small n) (all_of is_small steps) e in
    let small : n ≤ 1000000000000 = small_is n parts.0 in
    let here = times_few n 1000000000000 small s.taken in
    let rest = taken_few signals steps parts.1 in
    omega (arith, here, rest)
  where
    small_is : (n : ℕ) → is_small n ≡ true → n ≤ 1000000000000
    small_is n e = grind (arith, nat_tests, e)

reaction_few : (leaves : List Leaf) (all : List (List ℕ)) → all_of (all_of is_small) all ≡ true
    → reaction_steps leaves all ≤ 1000000000000 * all_submitted (map (λ (l : Leaf). l.signals) leaves)
reaction_few [] all e = omega arith
reaction_few (leaf ∷ leaves) [] e = omega arith
reaction_few (leaf ∷ leaves) (steps ∷ all) e =
    let parts = both_parts (all_of is_small steps) (all_of (all_of is_small) all) e in
    let here = taken_few leaf.signals steps parts.0 in
    let rest = reaction_few leaves all parts.1 in
    omega (arith, here, rest)

-- a small budget in a world with few signals
pub budget_few : (w : World) (b : StepBudget) (n : ℕ) → are_small b ≡ true → all_submitted (signals_of w) ≤ n
    → steps_in w b ≤ 1000000000000 + 1000000000000 * n
budget_few w b n e few =
    let parts = both_parts (is_small b.from_start) (all_of (all_of is_small) b.for_signals) e in
    let start : b.from_start ≤ 1000000000000 = grind (arith, nat_tests, parts.0) in
    let rest = reaction_few w.leaves b.for_signals parts.1 in
    omega (arith, start, rest, few)
