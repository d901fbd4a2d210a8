-- What a world's budgets come to once all its submitted signals are taken: no turn and no setting changes it, and the budgets are no greater before.
use Rattle.std.proofs.Common.{◌≡◌, ◌≤◌, ◌*◌, ◌+◌, ℕ, zero, suc, Bool, true, false, cond, List, [], ◌∷◌, map, Option, Some, None, Ok, refl, ap, sym, ◌∙◌}
use Rattle.std.proofs.Common.{subst, arith}
use Rattle.std.specs.Prelude.{slice_get, slice_set, sum_by}
use Rattle.std.proofs.lemmas.List.Sums.{sum_by-cons}
use Rattle.std.proofs.lemmas.Bool.{true≢false}
use Rattle.gq_model.specs.machine.Lists.{any_of}
use Rattle.gq_model.specs.machine.Scenario.{Scenario, System, system}
use Rattle.gq_model.specs.machine.World.{Signal, Leaf, World}
use Rattle.gq_model.specs.declared.phase.Phase.{Phase}
use Rattle.gq_model.specs.declared.phase.Phase.TheVariants.{Pending, Running, Blocked, Serving, Handling, Exited}
use Rattle.gq_model.specs.machine.Doing.{Event}
use Rattle.gq_model.specs.machine.Step.{later_signal, first_signal, next}
use Rattle.gq_model.specs.machine.Run.{set_input}
use Rattle.gq_model.specs.machine.Step_budgets.{StepBudget, taken_steps, reaction_steps, steps_in, all_steps_in}
use Rattle.gq_model.specs.rules.Accept.{budgets, step_budgets}
use Rattle.gq_model.specs.machine.Rest.{can_run}
use Rattle.gq_laws.specs.Turn_effects.{signals_of, signals_if, signals_then}
use Rattle.gq_laws.specs.Progress.{world_after, Move, Turn_of, Setting_of, Signal_of, after_move, after_moves, budgeted, is_signal_move, NoSignals, once_taken}
use Rattle.gq_laws.specs.Progress.{with_taken, when_taken, after_rounds}
use Rattle.gq_model.proofs.Small_facts.{some_same, none_some}
use Rattle.gq_laws.proofs.step_shapes.Step_counting.{map_set, takes_signals, stands_still, leaf_runs}
use Rattle.gq_laws.proofs.step_counts.Section_request_sums.{times_below}
use Rattle.gq_laws.proofs.upheld_worlds.Standing_world_invariant.{stands_upheld}
use Rattle.gq_laws.proofs.progress.Lasting_world_invariant.{Lasts, lasts_next, lasts_set}
use Rattle.gq_laws.proofs.input_settings.Setting_keeps_invariants.{of_setting}

-- SIGNALS

-- to take the first that is submitted changes nothing of what all come to
once_first : (signals : List Signal) (p : ℕ × List Signal) → first_signal signals ≡ Some p → once_taken p.1 ≡ once_taken signals
once_first [] p e = absurd (none_some e)
once_first (s ∷ rest) p e = by s.submitted refl (first_signal rest) (λ q f. once_first rest q f) e
  where
    by : (b : Bool) → s.submitted ≡ b → (o : Option (ℕ × List Signal)) → ((q : ℕ × List Signal) → o ≡ Some q → once_taken q.1 ≡ once_taken rest)
        → cond b (Some (0, record { submitted = false; taken = suc s.taken } ∷ rest)) (later_signal s o) ≡ Some p → once_taken p.1 ≡ once_taken (s ∷ rest)
    by true is o f e =
        ap (λ (q : ℕ × List Signal). once_taken q.1) (sym (some_same e))
        ∙ ap (λ b. cond b (record { submitted = false; taken = suc s.taken }) s ∷ once_taken rest) (sym is)
    by false is None f e = absurd (none_some e)
    by false is (Some q) f e =
        ap (λ (q : ℕ × List Signal). once_taken q.1) (sym (some_same e))
        ∙ ap (λ l. cond s.submitted (record { submitted = false; taken = suc s.taken }) s ∷ l) (f q refl)

then_once : (leaf : Leaf) (phase : Phase) → once_taken (signals_then leaf phase) ≡ once_taken leaf.signals
then_once leaf Pending = refl
then_once leaf Running = refl
then_once leaf Blocked = refl
then_once leaf Serving = by (first_signal leaf.signals) (λ p e. once_first leaf.signals p e)
  where
    by : (o : Option (ℕ × List Signal)) → ((p : ℕ × List Signal) → o ≡ Some p → once_taken p.1 ≡ once_taken leaf.signals)
        → once_taken (signals_if leaf.signals o) ≡ once_taken leaf.signals
    by None f = refl
    by (Some p) f = f p refl
then_once leaf Handling = refl
then_once leaf Exited = refl

-- WORLDS

-- what the signals of each leaf come to
abbrev pub once_of : World → List (List Signal)
once_of w = map once_taken (signals_of w)

once_at : (leaves : List Leaf) (x : ℕ) (leaf : Leaf) → slice_get leaves x ≡ Some leaf
    → slice_get (map once_taken (map (λ (l : Leaf). l.signals) leaves)) x ≡ Some (once_taken leaf.signals)
once_at [] x leaf e = absurd (none_some e)
once_at (l ∷ rest) zero leaf e = ap (λ (l : Leaf). Some (once_taken l.signals)) (some_same e)
once_at (l ∷ rest) (suc x) leaf e = once_at rest x leaf e

set_same : (l : List (List Signal)) (x : ℕ) (a b : List Signal) → slice_get l x ≡ Some a → b ≡ a → slice_set l x b ≡ l
set_same [] x a b e same = refl
set_same (c ∷ l) zero a b e same = ap (λ d. d ∷ l) (same ∙ sym (some_same e))
set_same (c ∷ l) (suc x) a b e same = ap (λ l. c ∷ l) (set_same l x a b e same)

-- a leaf whose signals come to the same
once_leaf : (w : World) (x : ℕ) (leaf : Leaf) (signals : List Signal) → slice_get w.leaves x ≡ Some leaf → once_taken signals ≡ once_taken leaf.signals
    → map once_taken (slice_set (signals_of w) x signals) ≡ once_of w
once_leaf w x leaf signals there same =
    map_set once_taken (signals_of w) x signals ∙ set_same (once_of w) x (once_taken leaf.signals) (once_taken signals) (once_at w.leaves x leaf there) same

pub once_turn : (system : System) (w : World) (x : ℕ) (new : World) (event : Event) → can_run system w x ≡ true → next system w x ≡ Ok (new, event)
    → once_of new ≡ once_of w
once_turn system w x new event can stepped =
    let leaf = leaf_runs system w x can in
    ap (map once_taken) (takes_signals system w x leaf.0 new event can leaf.1 stepped)
    ∙ once_leaf w x leaf.0 (signals_then leaf.0 leaf.0.phase) leaf.1 (then_once leaf.0 leaf.0.phase)

once_set : (system : System) (w : World) (x i n : ℕ) → once_of (set_input system w x i n) ≡ once_of w
once_set system w x i n = of_setting system (λ v. once_of v ≡ once_of w) w x i n
    (λ leaf inputs there. ap (map once_taken) (map_set (λ (l : Leaf). l.signals) w.leaves x (record leaf { inputs = inputs }))
    ∙ once_leaf w x leaf leaf.signals there refl) refl

-- BUDGETS

signals_less : (signals : List Signal) (steps : List ℕ) → taken_steps signals steps ≤ taken_steps (once_taken signals) steps
signals_less [] steps = omega arith
signals_less (s ∷ rest) [] = omega arith
signals_less (s ∷ rest) (n ∷ steps) = let further = signals_less rest steps in let here = by s.submitted in omega (arith, further, here)
  where
    by : (b : Bool) → s.taken * n ≤ (cond b (record { submitted = false; taken = suc s.taken }) s).taken * n
    by true = times_below s.taken (suc s.taken) n (omega arith)
    by false = omega arith

-- the steps by the signals of all leaves
abbrev pub steps_by : List (List Signal) → List (List ℕ) → ℕ
steps_by (signals ∷ all) (steps ∷ rest) = taken_steps signals steps + steps_by all rest
steps_by [] rest = 0
steps_by (signals ∷ all) [] = 0

pub leaves_less : (leaves : List Leaf) (steps : List (List ℕ))
    → reaction_steps leaves steps ≤ steps_by (map once_taken (map (λ (l : Leaf). l.signals) leaves)) steps
leaves_less [] steps = omega arith
leaves_less (l ∷ rest) [] = omega arith
leaves_less (l ∷ rest) (n ∷ steps) = let further = leaves_less rest steps in let here = signals_less l.signals n in omega (arith, further, here)

leaves_same : (leaves : List Leaf) (steps : List (List ℕ))
    → reaction_steps (with_taken leaves) steps ≡ steps_by (map once_taken (map (λ (l : Leaf). l.signals) leaves)) steps
leaves_same [] steps = refl
leaves_same (l ∷ rest) [] = refl
leaves_same (l ∷ rest) (n ∷ steps) = ap (λ m. taken_steps (once_taken l.signals) n + m) (leaves_same rest steps)

steps_less : (v w : World) → once_of v ≡ once_of w → (b : StepBudget) → steps_in v b ≤ steps_in (when_taken w) b
steps_less v w same b =
    let less = leaves_less v.leaves b.for_signals in
    let more = leaves_same w.leaves b.for_signals in
    let all = ap (λ l. steps_by l b.for_signals) same in
    omega (arith, less, more, all)

total_less : (v w : World) → once_of v ≡ once_of w → (bs : List StepBudget)
    → sum_by (λ (n : ℕ). n) (all_steps_in v bs) ≤ sum_by (λ (n : ℕ). n) (all_steps_in (when_taken w) bs)
total_less v w same [] = omega arith
total_less v w same (b ∷ bs) =
    let here = steps_less v w same b in
    let further = total_less v w same bs in
    omega (
      arith,
      here,
      further,
      sum_by-cons (λ (n : ℕ). n) (steps_in v b) (all_steps_in v bs),
      sum_by-cons (λ (n : ℕ). n) (steps_in (when_taken w) b) (all_steps_in (when_taken w) bs),
    )

pub budget_less : (s : Scenario) (v w : World) → once_of v ≡ once_of w → budgeted s v ≤ budgeted s (when_taken w)
budget_less s v w same = total_less v w same (step_budgets (budgets s))

-- MOVES

module _ (s : Scenario) where
  abbrev real : System
  real = system s

  once_after : (w : World) → Lasts s w → (x : ℕ) → once_of (world_after w (next real w x)) ≡ once_of w
  once_after w h x = by (can_run real w x) refl
    where
      by : (b : Bool) → can_run real w x ≡ b → once_of (world_after w (next real w x)) ≡ once_of w
      by true e =
          let p = (stands_upheld s w h.stands).goes_on x in
          ap (λ r. once_of (world_after w r)) p.1 ∙ once_turn real w x p.0.0 p.0.1 e p.1
      by false e = ap (λ r. once_of (world_after w r)) (stands_still real w x e)

  lasts_after : (w : World) → Lasts s w → (x : ℕ) → Lasts s (world_after w (next real w x))
  lasts_after w h x =
      let p = (stands_upheld s w h.stands).goes_on x in
      subst (λ r. Lasts s (world_after w r)) (sym p.1) (lasts_next s h.stands.sound w x p.0.0 p.0.1 h p.1)

  pub once_moves : (w : World) → Lasts s w → (moves : List Move) → any_of is_signal_move moves ≡ false
      → (once_of (after_moves real w moves) ≡ once_of w) × Lasts s (after_moves real w moves)
  once_moves w h [] none = (refl, h)
  once_moves w h (Turn_of x ∷ moves) none =
      let further = once_moves (world_after w (next real w x)) (lasts_after w h x) moves none in (further.0 ∙ once_after w h x, further.1)
  once_moves w h (Setting_of x i n ∷ moves) none =
      let further = once_moves (set_input real w x i n) (lasts_set s h.stands.sound w x i n h) moves none in (further.0 ∙ once_set real w x i n, further.1)
  once_moves w h (Signal_of x i ∷ moves) none = absurd (true≢false none)

  pub once_rounds : (w : World) → Lasts s w → (rounds : List (List Move)) → NoSignals rounds → once_of (after_rounds real w rounds) ≡ once_of w
  once_rounds w h [] none = refl
  once_rounds w h (round ∷ rounds) none =
      let here = once_moves w h round none.0 in once_rounds (after_moves real w round) here.1 rounds none.1 ∙ here.0
