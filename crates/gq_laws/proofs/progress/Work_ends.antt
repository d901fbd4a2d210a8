-- All work ends: at most as many moves are steps as the budgets of steps sum to, and after as many rounds every leaf is at rest.
use Rattle.std.proofs.Common.{◌≡◌, ℕ, zero, suc, ◌+◌, ◌<◌, ◌≤◌, ◌==◌, ◌||◌, ◌⊎◌, inl, inr, Bool, true, false, not, cond, List, [], ◌∷◌, map, length, Option}
use Rattle.std.proofs.Common.{Some}
use Rattle.std.proofs.Common.{None}
use Rattle.std.proofs.Common.{Ok, refl, ap, sym, ◌∙◌, subst, arith}
use Rattle.std.specs.Prelude.{slice_get, slice_index, sum_by, is_some}
use Rattle.std.proofs.lemmas.List.Sums.{sum_by-cons}
use Rattle.std.proofs.lemmas.Bool.{eqb-true, true≢false, false≢true, or_cases, or_parts}
use Rattle.gq_model.specs.machine.Lists.{any_of}
use Rattle.gq_model.specs.machine.Scenario.{Scenario, System, Component, components, system}
use Rattle.gq_model.specs.machine.World.{Leaf, World}
use Rattle.gq_model.specs.machine.Doing.{Event}
use Rattle.gq_model.specs.declared.phase.Phase.{Phase}
use Rattle.gq_model.specs.declared.phase.Phase.TheVariants.{Pending, Running, Blocked, Serving, Handling, Exited}
use Rattle.gq_model.specs.machine.Step.{oldest, first_signal, next}
use Rattle.gq_model.specs.rules.Accept.{Budget, budgets, step_budgets}
use Rattle.gq_model.specs.machine.Rest.{runs, runs_as, can_run}
use Rattle.gq_laws.specs.Turn_effects.{steps_of}
use Rattle.gq_laws.specs.Shapes.{Each}
use Rattle.gq_model.proofs.Small_facts.{some_same, none_some, get_within}
use Rattle.gq_laws.proofs.step_shapes.Step_counting.{index_there, counts_steps, stands_still}
use Rattle.gq_laws.proofs.quota_payment.Written_world_prices.{sum_set}
use Rattle.gq_laws.proofs.upheld_worlds.Standing_world_invariant.{stands_upheld}
use Rattle.gq_laws.specs.Progress.{rests, AllRest, world_after, Move, Turn_of, Setting_of, Signal_of, after_move, after_moves, steps_by, taken as taken_by}
use Rattle.gq_laws.specs.Progress.{budgeted, WorkEnds, is_turn_of, is_signal_move, IsRound, NoSignals, when_taken, after_rounds}
use Rattle.gq_laws.specs.Progress.{RoundsSuffice}
use Rattle.gq_laws.proofs.progress.Lasting_world_invariant.{Lasts, lasts_next, lasts_set, lasts_submit}
use Rattle.gq_laws.proofs.progress.No_deadlock.{rest_or_run}
use Rattle.gq_laws.proofs.input_settings.Setting_counts_nothing.{set_steps, set_rests, set_runs, submit_steps, submit_runs}
use Rattle.gq_model.specs.machine.Run.{set_input, submit}
use Rattle.std.proofs.lemmas.Option.{slice_get_within}
use Rattle.gq_laws.proofs.step_counts.Counted_worlds.{steps_at}
use Rattle.gq_model.specs.machine.Step_budgets.{all_steps_in}
use Rattle.gq_model.specs.machine.Step_budgets.{steps_in as budget_in}
use Rattle.gq_laws.proofs.progress.Signals_left.{budget_less, once_rounds, once_turn}

abbrev total : List ℕ → ℕ
total = sum_by (λ (n : ℕ). n)

-- STEPS ARE ADDED UP

-- the leaf that can run is there
leaf_there : (w : World) (x : ℕ) (c : Option Component) (o : Option Leaf) → runs_as w x c o ≡ true → (leaf : Leaf) × (o ≡ Some leaf)
leaf_there w x (Some c) (Some leaf) e = (leaf, refl)
leaf_there w x (Some c) None e = absurd (false≢true e)
leaf_there w x None o e = absurd (false≢true e)

pub leaf_of_steps : (leaves : List Leaf) (x n : ℕ) → slice_get (map (λ l. l.steps) leaves) x ≡ Some n
    → (leaf : Leaf) × (slice_get leaves x ≡ Some leaf) × (leaf.steps ≡ n)
leaf_of_steps [] x n e = absurd (none_some e)
leaf_of_steps (l ∷ rest) zero n e = (l, refl, some_same e)
leaf_of_steps (l ∷ rest) (suc x) n e = leaf_of_steps rest x n e

budget_steps : (w : World) (bs : List Budget) (x : ℕ) (b : Budget) → slice_get bs x ≡ Some b
    → slice_get (all_steps_in w (step_budgets bs)) x ≡ Some (budget_in w b.steps)
budget_steps w [] x b e = absurd (none_some e)
budget_steps w (a ∷ bs) zero b e = ap (λ (b : Budget). Some (budget_in w b.steps)) (some_same e)
budget_steps w (a ∷ bs) (suc x) b e = budget_steps w bs x b e

-- a step adds one
pub step_adds : (system : System) (w : World) (x : ℕ) (new : World) (event : Event) → can_run system w x ≡ true → next system w x ≡ Ok (new, event)
    → taken_by new ≡ suc (taken_by w)
step_adds system w x new event can stepped =
    let leaf = leaf_there w x (slice_get system.components x) (slice_get w.leaves x) can in
    let index = index_there w.leaves x leaf.0 leaf.1 in
    let at : slice_get (steps_of w) x ≡ Some (slice_index (steps_of w) x) = steps_at w.leaves x leaf.0 leaf.1 ∙ ap Some (sym index) in
    let n = sum_set (λ (n : ℕ). n) (steps_of w) x (slice_index (steps_of w) x) (suc (slice_index (steps_of w) x)) at in
    ap total (counts_steps system w x new event can stepped) ∙ omega (arith, n)

-- no sum is greater where no term is
total_less : (ns ms : List ℕ) → ((x n : ℕ) → slice_get ns x ≡ Some n → (m : ℕ) × (slice_get ms x ≡ Some m) × (n ≤ m)) → total ns ≤ total ms
total_less [] ms h = omega arith
total_less (n ∷ ns) [] h = absurd (none_some (h zero n refl).1)
total_less (n ∷ ns) (m ∷ ms) h =
    let first = h zero n refl in
    let le = first.2 in
    let same = some_same first.1 in
    let rest = total_less ns ms (λ x k e. h (suc x) k e) in
    omega (arith, le, same, rest, sum_by-cons (λ (n : ℕ). n) n ns, sum_by-cons (λ (n : ℕ). n) m ms)

module _ (s : Scenario) where
  abbrev real : System
  real = system s

  within_budgets : (w : World) → Lasts s w → taken_by w ≤ budgeted s w
  within_budgets w h = total_less (steps_of w) (all_steps_in w (step_budgets (budgets s))) each
    where
      each : (x n : ℕ) → slice_get (steps_of w) x ≡ Some n → (m : ℕ) × (slice_get (all_steps_in w (step_budgets (budgets s))) x ≡ Some m) × (n ≤ m)
      each x n e =
          let leaf = leaf_of_steps w.leaves x n e in
          let below = slice_get_within w.leaves x leaf.0 leaf.1 in
          let count = h.stands.whole.count in
          let c = get_within (components s) x (omega (arith, below, count)) in
          let k = (stands_upheld s w h.stands).keeps_budgets x c.0 c.1 in
          let same : k.leaf.steps ≡ n = ap (λ (l : Leaf). l.steps) (some_same (sym k.there ∙ leaf.1)) ∙ leaf.2 in
          let few = k.steps in
          (_, budget_steps w (budgets s) x _ k.reported, omega (arith, same, few))

  -- ONE TURN

  -- a turn that is a step adds one, another changes nothing
  data Turned (w : World) (x : ℕ) (new : World) : Type 0 where
    Step : (can : can_run real w x ≡ true) (adds : taken_by new ≡ suc (taken_by w)) → Turned w x new
    Still : (can : can_run real w x ≡ false) (same : new ≡ w) → Turned w x new

  turned : (w : World) → Lasts s w → (x : ℕ) → Turned w x (world_after w (next real w x))
  turned w h x = by (can_run real w x) refl
    where
      by : (b : Bool) → can_run real w x ≡ b → Turned w x (world_after w (next real w x))
      by true e =
          let p = (stands_upheld s w h.stands).goes_on x in
          subst (λ r. Turned w x (world_after w r)) (sym p.1) (Step e (step_adds real w x p.0.0 p.0.1 e p.1))
      by false e = Still e (ap (world_after w) (stands_still real w x e))

  lasts_after : (w : World) → Lasts s w → (x : ℕ) → Lasts s (world_after w (next real w x))
  lasts_after w h x =
      let p = (stands_upheld s w h.stands).goes_on x in
      subst (λ r. Lasts s (world_after w r)) (sym p.1) (lasts_next s h.stands.sound w x p.0.0 p.0.1 h p.1)

  -- MOVES

  -- a move adds the step that it is
  adds_steps : (w : World) → Lasts s w → (m : Move) → taken_by (after_move real w m) ≡ taken_by w + steps_by real w m
  adds_steps w h (Turn_of x) = by (turned w h x)
    where
      by : Turned w x (world_after w (next real w x)) → taken_by (world_after w (next real w x)) ≡ taken_by w + cond (can_run real w x) 1 0
      by (Step can adds) =
          let one : ◌≡◌ {A = ℕ} (cond (can_run real w x) 1 0) 1 = ap (λ b. cond b 1 0) can in omega (arith, adds, one)
      by (Still can same) =
          let none : ◌≡◌ {A = ℕ} (cond (can_run real w x) 1 0) 0 = ap (λ b. cond b 1 0) can in
          let taken : taken_by (world_after w (next real w x)) ≡ taken_by w = ap taken_by same in omega (arith, taken, none)
  adds_steps w h (Setting_of x i n) = let same = ap total (set_steps real w x i n) in omega (arith, same)
  adds_steps w h (Signal_of x i) = let same = ap total (submit_steps w x i) in omega (arith, same)

  lasts_move : (w : World) → Lasts s w → (m : Move) → Lasts s (after_move real w m)
  lasts_move w h (Turn_of x) = lasts_after w h x
  lasts_move w h (Setting_of x i n) = lasts_set s h.stands.sound w x i n h
  lasts_move w h (Signal_of x i) = lasts_submit s h.stands.sound w x i h

  pub work_ends : (w : World) → Lasts s w → WorkEnds s w
  work_ends w h [] = let most = within_budgets w h in omega (arith, most)
  work_ends w h (m ∷ moves) =
      let adds = adds_steps w h m in
      let most = work_ends (after_move real w m) (lasts_move w h m) moves in
      omega (arith, adds, most)

  lasts_moves : (w : World) → Lasts s w → (moves : List Move) → Lasts s (after_moves real w moves)
  lasts_moves w h [] = h
  lasts_moves w h (m ∷ moves) = lasts_moves (after_move real w m) (lasts_move w h m) moves

  -- no move takes back a step
  no_less : (w : World) → Lasts s w → (moves : List Move) → taken_by w ≤ taken_by (after_moves real w moves)
  no_less w h [] = omega arith
  no_less w h (m ∷ moves) =
      let adds = adds_steps w h m in
      let le = no_less (after_move real w m) (lasts_move w h m) moves in
      omega (arith, adds, le)

  -- ROUNDS

  -- where every leaf is at rest, none can run
  rests_still : (w : World) → AllRest w → (x : ℕ) → can_run real w x ≡ false
  rests_still w rest x = by (slice_get (components s) x) (slice_get w.leaves x) refl
    where
      by_phase : (leaf : Leaf) (phase : Phase) → rests w x leaf phase ≡ true → runs w x leaf phase ≡ false
      by_phase leaf Pending e = refl
      by_phase leaf Running e = absurd (false≢true e)
      by_phase leaf Blocked e = refl
      by_phase leaf Serving e = by_found (is_some (first_signal leaf.signals) || is_some (oldest w x w.requests)) e
        where
          by_found : (b : Bool) → not b ≡ true → b ≡ false
          by_found true f = absurd (false≢true f)
          by_found false f = refl
      by_phase leaf Handling e = absurd (false≢true e)
      by_phase leaf Exited e = refl

      by : (c : Option Component) (o : Option Leaf) → slice_get w.leaves x ≡ o → runs_as w x c o ≡ false
      by (Some c) (Some leaf) e = by_phase leaf leaf.phase (rest x leaf e)
      by (Some c) None e = refl
      by None o e = refl

  -- and then a move that submits no signal leaves every leaf at rest
  rest_moves : (w : World) → AllRest w → (m : Move) → is_signal_move m ≡ false → AllRest (after_move real w m)
  rest_moves w rest (Turn_of x) none = subst AllRest (sym (ap (world_after w) (stands_still real w x (rests_still w rest x)))) rest
  rest_moves w rest (Setting_of x i n) none = set_rests real w x i n rest
  rest_moves w rest (Signal_of x i) none = absurd (true≢false none)

  rest_stays : (w : World) → AllRest w → (moves : List Move) → any_of is_signal_move moves ≡ false → AllRest (after_moves real w moves)
  rest_stays w rest [] none = rest
  rest_stays w rest (m ∷ moves) none =
      let p = or_parts (is_signal_move m) (any_of is_signal_move moves) none in rest_stays (after_move real w m) (rest_moves w rest m p.0) moves p.1

  rest_stays_on : (w : World) → AllRest w → (rounds : List (List Move)) → NoSignals rounds → AllRest (after_rounds real w rounds)
  rest_stays_on w rest [] none = rest
  rest_stays_on w rest (round ∷ rounds) none = rest_stays_on (after_moves real w round) (rest_stays w rest round none.0) rounds none.1

  -- where a leaf that can run has a turn, a step is taken
  one_step : (w : World) → Lasts s w → (x : ℕ) → can_run real w x ≡ true → (moves : List Move) → any_of (is_turn_of x) moves ≡ true
      → suc (taken_by w) ≤ taken_by (after_moves real w moves)
  one_step w h x can [] e = absurd (false≢true e)
  one_step w h x can (Setting_of y i n ∷ moves) e =
      let further = one_step (set_input real w y i n) (lasts_move w h (Setting_of y i n)) x (set_runs real w y i n x ∙ can) moves e in
      let same = ap total (set_steps real w y i n) in
      omega (arith, same, further)
  one_step w h x can (Signal_of y i ∷ moves) e =
      let further = one_step (submit w y i) (lasts_move w h (Signal_of y i)) x (submit_runs real w y i x can) moves e in
      let same = ap total (submit_steps w y i) in
      omega (arith, same, further)
  one_step w h x can (Turn_of y ∷ moves) e =
      by (turned w h y) (no_less (world_after w (next real w y)) (lasts_after w h y) moves) (one_step w h x can moves)
    where
      by : Turned w y (world_after w (next real w y))
          → taken_by (world_after w (next real w y)) ≤ taken_by (after_moves real (world_after w (next real w y)) moves)
          → (any_of (is_turn_of x) moves ≡ true → suc (taken_by w) ≤ taken_by (after_moves real w moves))
          → suc (taken_by w) ≤ taken_by (after_moves real (world_after w (next real w y)) moves)
      by (Step ran adds) le further = omega (arith, adds, le)
      by (Still stays same) le further =
          subst (λ v. suc (taken_by w) ≤ taken_by (after_moves real v moves)) (sym same) (elim (or_cases (y == x) (any_of (is_turn_of x) moves) e) [
            | inl f ↦ absurd (true≢false (sym can ∙ (ap (can_run real w) (sym (eqb-true y x f)) ∙ stays)))
            | inr f ↦ further f
          ])

  -- a round takes a step, unless every leaf is at rest
  round_counts : (w : World) → Lasts s w → (turns : List Move) → IsRound real turns → AllRest w ⊎ (suc (taken_by w) ≤ taken_by (after_moves real w turns))
  round_counts w h turns round = elim (rest_or_run s w h) [
    | inl rest ↦ inl rest
    | inr run ↦ inr (one_step w h run.0 run.1 turns (round run.0 (below run.0 run.1)))
  ]
    where
      below : (x : ℕ) → can_run real w x ≡ true → x < length (components s)
      below x can =
          let leaf = leaf_there w x (slice_get (components s) x) (slice_get w.leaves x) can in
          let under = slice_get_within w.leaves x leaf.0 leaf.1 in
          let count = h.stands.whole.count in omega (arith, under, count)

  pub rounds_count : (w : World) → Lasts s w → (rounds : List (List Move)) → Each (IsRound real) rounds → NoSignals rounds
      → AllRest (after_rounds real w rounds) ⊎ (taken_by w + length rounds ≤ taken_by (after_rounds real w rounds))
  rounds_count w h [] all none = inr (omega arith)
  rounds_count w h (round ∷ rounds) all none =
      by (round_counts w h round all.0) (rounds_count (after_moves real w round) (lasts_moves w h round) rounds all.1 none.1)
    where
      by : AllRest w ⊎ (suc (taken_by w) ≤ taken_by (after_moves real w round))
          → AllRest (after_rounds real (after_moves real w round) rounds)
          ⊎ (taken_by (after_moves real w round) + length rounds ≤ taken_by (after_rounds real (after_moves real w round) rounds))
          → AllRest (after_rounds real (after_moves real w round) rounds)
          ⊎ (taken_by w + length (round ∷ rounds) ≤ taken_by (after_rounds real (after_moves real w round) rounds))
      by (inl rest) further = inl (rest_stays_on w rest (round ∷ rounds) none)
      by (inr more) (inl rest) = inl rest
      by (inr more) (inr le) = inr (omega (arith, more, le))

  pub lasts_rounds : (w : World) → Lasts s w → (rounds : List (List Move)) → Lasts s (after_rounds real w rounds)
  lasts_rounds w h [] = h
  lasts_rounds w h (round ∷ rounds) = lasts_rounds (after_moves real w round) (lasts_moves w h round) rounds

  pub rounds_suffice : (w : World) → Lasts s w → RoundsSuffice s w
  rounds_suffice w h rounds all none enough =
      elim (rounds_count w h rounds all none) [
        | inl rest ↦ rest
        | inr many ↦ elim (rest_or_run s (after_rounds real w rounds) (lasts_rounds w h rounds)) [
          | inl rest ↦ rest
          | inr run ↦ absurd (too_many many run.0 run.1)
        ]
      ]
    where
      too_many : taken_by w + length rounds ≤ taken_by (after_rounds real w rounds) → (x : ℕ) → can_run real (after_rounds real w rounds) x ≡ true → ⊥
      too_many many x can =
          let last = lasts_rounds w h rounds in
          let p = (stands_upheld s (after_rounds real w rounds) last.stands).goes_on x in
          let adds = step_adds real (after_rounds real w rounds) x p.0.0 p.0.1 can p.1 in
          let most = within_budgets p.0.0 (lasts_next s last.stands.sound (after_rounds real w rounds) x p.0.0 p.0.1 last p.1) in
          let less = budget_less s p.0.0 w (once_turn real (after_rounds real w rounds) x p.0.0 p.0.1 can p.1 ∙ once_rounds s w h rounds none) in
          omega (arith, many, adds, most, less, enough)
