-- A setting is no step: each leaf has taken as many as before, and can run, or is at rest, where it could or was before. A signal that is submitted is none
-- either, and no leaf stops for it that could run.
use Rattle.std.proofs.Common.{◌≡◌, ℕ, zero, suc, ◌||◌, inl, inr, Bool, true, false, not, cond, List, [], ◌∷◌, map, Option, Some, None, refl, ap, sym, ◌∙◌}
use Rattle.std.specs.Prelude.{is_some, slice_get, slice_set}
use Rattle.gq_model.specs.declared.phase.Phase.{Phase}
use Rattle.gq_model.specs.declared.phase.Phase.TheVariants.{Pending, Running, Blocked, Serving, Handling, Exited}
use Rattle.gq_model.specs.machine.Run.{set_input, signals_with, submit}
use Rattle.gq_model.specs.machine.Scenario.{System, Component}
use Rattle.gq_model.specs.machine.Step.{is_to, kept_before, oldest, later_signal, first_signal}
use Rattle.gq_model.specs.machine.World.{Request, Signal, Leaf, World, session_at, with_leaf}
use Rattle.gq_laws.specs.Progress.{rests, AllRest}
use Rattle.gq_model.specs.machine.Rest.{runs, runs_as, can_run}
use Rattle.gq_laws.specs.Turn_effects.{steps_of}
use Rattle.gq_model.proofs.Small_facts.{some_same}
use Rattle.gq_laws.proofs.input_settings.Setting_keeps_invariants.{of_setting, of_submit}
use Rattle.gq_laws.proofs.input_settings.World_with_inputs.{at_leaf}
use Rattle.std.proofs.lemmas.Bool.{or_left, or_right}
use Rattle.std.proofs.lemmas.Bool.Decides.{eqb_tells}
use Rattle.gq_laws.proofs.remaining_work.Remaining_program_statements.{set_get}
use Rattle.gq_laws.proofs.session_links.Written_world_links.{set_here, set_else}

same_steps : (leaves : List Leaf) (x : ℕ) (leaf : Leaf) (inputs : List ℕ) (signals : List Signal) → slice_get leaves x ≡ Some leaf
    → map (λ l. l.steps) (slice_set leaves x (record leaf { inputs = inputs; signals = signals })) ≡ map (λ l. l.steps) leaves
same_steps [] x leaf inputs signals e = refl
same_steps (l ∷ rest) zero leaf inputs signals e = ap (λ (m : Leaf). m.steps ∷ map (λ l. l.steps) rest) (sym (some_same e))
same_steps (l ∷ rest) (suc x) leaf inputs signals e = ap (λ t. l.steps ∷ t) (same_steps rest x leaf inputs signals e)

pub set_steps : (system : System) (w : World) (x i n : ℕ) → steps_of (set_input system w x i n) ≡ steps_of w
set_steps system w x i n =
    of_setting system (λ v. steps_of v ≡ steps_of w) w x i n (λ leaf inputs there. same_steps w.leaves x leaf inputs leaf.signals there) refl

pub submit_steps : (w : World) (x i : ℕ) → steps_of (submit w x i) ≡ steps_of w
submit_steps w x i = of_submit (λ v. steps_of v ≡ steps_of w) w x i
    (λ leaf there. same_steps w.leaves x leaf leaf.inputs (signals_with leaf.signals i) there) refl

-- a leaf bears on no request
oldest_with : (w : World) (x : ℕ) (leaf : Leaf) (y : ℕ) (rs : List Request) → oldest (with_leaf w x leaf) y rs ≡ oldest w y rs
oldest_with w x leaf y [] = refl
oldest_with w x leaf y (r ∷ rs) =
    ap (λ o. cond (is_to y (session_at w r.session)) (Some (r, rs)) (kept_before r o)) (oldest_with w x leaf y rs)

module _ (w : World) (x : ℕ) (leaf : Leaf) (there : slice_get w.leaves x ≡ Some leaf) (inputs : List ℕ) where
  abbrev v : World
  v = with_leaf w x (record leaf { inputs = inputs })

  runs_with : (y : ℕ) (l : Leaf) (phase : Phase) → runs v y l phase ≡ runs w y l phase
  runs_with y l Pending = refl
  runs_with y l Running = refl
  runs_with y l Blocked = refl
  runs_with y l Serving = ap (λ o. is_some (first_signal l.signals) || is_some o) (oldest_with w x (record leaf { inputs = inputs }) y w.requests)
  runs_with y l Handling = refl
  runs_with y l Exited = refl

  runs_as_with : (y : ℕ) (c : Option Component) (o : Option Leaf) → runs_as v y c o ≡ runs_as w y c o
  runs_as_with y (Some c) (Some l) = runs_with y l l.phase
  runs_as_with y (Some c) None = refl
  runs_as_with y None o = refl

  same_phase : (y : ℕ) (phase : Phase) → runs w y (record leaf { inputs = inputs }) phase ≡ runs w y leaf phase
  same_phase y Pending = refl
  same_phase y Running = refl
  same_phase y Blocked = refl
  same_phase y Serving = refl
  same_phase y Handling = refl
  same_phase y Exited = refl

  same_as : (c : Option Component) (y : ℕ) → runs_as w y c (Some (record leaf { inputs = inputs })) ≡ runs_as w y c (Some leaf)
  same_as (Some c) y = same_phase y leaf.phase
  same_as None y = refl

  can_run_with : (system : System) (y : ℕ) → can_run system v y ≡ can_run system w y
  can_run_with system y =
      runs_as_with y (slice_get system.components y) (slice_get v.leaves y)
      ∙ at_leaf w x leaf there inputs leaf.signals (runs_as w y (slice_get system.components y)) (same_as (slice_get system.components y) y) y

  rests_with : (y : ℕ) (l : Leaf) (phase : Phase) → rests v y l phase ≡ rests w y l phase
  rests_with y l Pending = refl
  rests_with y l Running = refl
  rests_with y l Blocked = refl
  rests_with y l Serving = ap (λ o. not (is_some (first_signal l.signals) || is_some o)) (oldest_with w x (record leaf { inputs = inputs }) y w.requests)
  rests_with y l Handling = refl
  rests_with y l Exited = refl

  same_rest : (y : ℕ) (phase : Phase) → rests w y (record leaf { inputs = inputs }) phase ≡ rests w y leaf phase
  same_rest y Pending = refl
  same_rest y Running = refl
  same_rest y Blocked = refl
  same_rest y Serving = refl
  same_rest y Handling = refl
  same_rest y Exited = refl

  all_rest_with : AllRest w → AllRest v
  all_rest_with h y l e = elim (set_get w.leaves x y (record leaf { inputs = inputs }) l e) [
    | inl f ↦ rests_with y l l.phase ∙ (ap (λ (l : Leaf). rests w y l l.phase) (sym f.1) ∙ (same_rest y leaf.phase
        ∙ h y leaf (ap (slice_get w.leaves) f.0 ∙ there)))
    | inr f ↦ rests_with y l l.phase ∙ h y l f
  ]

pub set_runs : (system : System) (w : World) (x i n y : ℕ) → can_run system (set_input system w x i n) y ≡ can_run system w y
set_runs system w x i n y = of_setting system (λ v. can_run system v y ≡ can_run system w y) w x i n
    (λ leaf inputs there. can_run_with w x leaf there inputs system y) refl

pub set_rests : (system : System) (w : World) (x i n : ℕ) → AllRest w → AllRest (set_input system w x i n)
set_rests system w x i n h = of_setting system AllRest w x i n (λ leaf inputs there. all_rest_with w x leaf there inputs h) h

-- SIGNALS

or_more : (a b c : Bool) → (a ≡ true → b ≡ true) → (a || c) ≡ true → (b || c) ≡ true
or_more true b c f e = or_left b c (f refl)
or_more false b c f e = or_right b c e

submitted_more : (signals : List Signal) (i : ℕ) → is_some (first_signal signals) ≡ true → is_some (first_signal (signals_with signals i)) ≡ true
submitted_more [] i e = e
submitted_more (s ∷ rest) zero e = refl
submitted_more (s ∷ rest) (suc i) e = by s.submitted (first_signal rest) (first_signal (signals_with rest i)) (submitted_more rest i) e
  where
    some_later : (o : Option (ℕ × List Signal)) → is_some (later_signal s o) ≡ is_some o
    some_later None = refl
    some_later (Some p) = refl

    by : (b : Bool) (o p : Option (ℕ × List Signal)) → (is_some o ≡ true → is_some p ≡ true)
        → is_some (cond b (Some (0, record { submitted = false; taken = suc s.taken } ∷ rest)) (later_signal s o)) ≡ true
        → is_some (cond b (Some (0, record { submitted = false; taken = suc s.taken } ∷ signals_with rest i)) (later_signal s p)) ≡ true
    by true o p f e = refl
    by false o p f e = some_later p ∙ f (sym (some_later o) ∙ e)

module _ (w : World) (x i : ℕ) (leaf : Leaf) (there : slice_get w.leaves x ≡ Some leaf) where
  abbrev new : Leaf
  new = record leaf { signals = signals_with leaf.signals i }

  abbrev u : World
  u = with_leaf w x new

  runs_on : (y : ℕ) (l : Leaf) (phase : Phase) → runs w y l phase ≡ true → runs u y l phase ≡ true
  runs_on y l Pending e = e
  runs_on y l Running e = e
  runs_on y l Blocked e = e
  runs_on y l Serving e = ap (λ o. is_some (first_signal l.signals) || is_some o) (oldest_with w x new y w.requests) ∙ e
  runs_on y l Handling e = e
  runs_on y l Exited e = e

  runs_more : (y : ℕ) (phase : Phase) → runs w y leaf phase ≡ true → runs w y new phase ≡ true
  runs_more y Pending e = e
  runs_more y Running e = e
  runs_more y Blocked e = e
  runs_more y Serving e = or_more (is_some (first_signal leaf.signals)) (is_some (first_signal (signals_with leaf.signals i))) (is_some (oldest w y w.requests))
      (submitted_more leaf.signals i) e
  runs_more y Handling e = e
  runs_more y Exited e = e

  runs_as_on : (y : ℕ) (c : Option Component) (o : Option Leaf) → runs_as w y c o ≡ true → runs_as u y c o ≡ true
  runs_as_on y (Some c) (Some l) e = runs_on y l l.phase e
  runs_as_on y (Some c) None e = e
  runs_as_on y None o e = e

  runs_as_more : (y : ℕ) (c : Option Component) → runs_as w y c (Some leaf) ≡ true → runs_as w y c (Some new) ≡ true
  runs_as_more y (Some c) e = runs_more y leaf.phase e
  runs_as_more y None e = e

  can_run_on : (system : System) (y : ℕ) → can_run system w y ≡ true → can_run system u y ≡ true
  can_run_on system y can = runs_as_on y c (slice_get u.leaves y) (elim (eqb_tells y x) [
    | inl e ↦ ap (runs_as w y c) (ap (slice_get u.leaves) e.1 ∙ set_here w.leaves x new leaf there)
        ∙ runs_as_more y c (ap (runs_as w y c) (sym (ap (slice_get w.leaves) e.1 ∙ there)) ∙ can)
    | inr e ↦ ap (runs_as w y c) (set_else w.leaves x y new e.1) ∙ can
  ])
    where
      c : Option Component
      c = slice_get system.components y

pub submit_runs : (system : System) (w : World) (x i y : ℕ) → can_run system w y ≡ true → can_run system (submit w x i) y ≡ true
submit_runs system w x i y can = of_submit (λ v. can_run system v y ≡ true) w x i (λ leaf there. can_run_on w x i leaf there system y can) can
