-- From a world at rest on, steps are those of the signals that are taken.
use Rattle.std.proofs.Common.{◌≡◌, ◌≤◌, ◌+◌, ◌*◌, ℕ, zero, suc, ◌⊎◌, inl, inr, Bool, true, false, not, ◌||◌, nat_lt, cond, List, [], ◌∷◌, ◌++◌, map, length}
use Rattle.std.proofs.Common.{take, drop, Option, Some, None, refl, ap, sym}
use Rattle.std.proofs.Common.{◌∙◌, subst, arith}
use Rattle.std.specs.Prelude.{is_some, slice_get, slice_set, slice_index, slice_index_or, sum, sum_by}
use Rattle.std.proofs.lemmas.Bool.{true≢false, false≢true, or_parts, lt-ltb, cases_lt}
use Rattle.std.proofs.lemmas.List.Sums.{sum_by-cons}
use Rattle.gq_model.specs.declared.phase.Phase.{Phase}
use Rattle.gq_model.specs.declared.phase.Phase.TheVariants.{Pending, Running, Blocked, Serving, Handling, Exited}
use Rattle.gq_model.specs.machine.Lists.{any_of}
use Rattle.gq_model.specs.machine.Scenario.{Scenario, System, Component, components, system}
use Rattle.gq_model.specs.machine.World.{Signal, Leaf, World}
use Rattle.gq_model.specs.machine.Step.{oldest, later_signal, first_signal, next}
use Rattle.gq_model.specs.machine.Run.{set_input, signals_with, submit_in, submit}
use Rattle.gq_model.specs.machine.Step_budgets.{taken_steps, reaction_steps}
use Rattle.gq_model.specs.rules.Accept.{Budget, budgets, steps_of_signal}
use Rattle.gq_model.specs.rules.Use.{step_budget}
use Rattle.gq_model.specs.Promises.{budget_of}
use Rattle.gq_laws.specs.Shapes.{Each}
use Rattle.gq_laws.specs.Progress.{rests, AllRest, world_after, Move, Turn_of, Setting_of, Signal_of, after_move, after_moves, taken, is_signal_move}
use Rattle.gq_laws.specs.Progress.{once_taken, IsRound, NoSignals}
use Rattle.gq_laws.specs.Progress.{after_rounds}
use Rattle.gq_laws.specs.Reactions.{ReactsWithin, OneReacts, ReactionEnds, reaction}
use Rattle.gq_laws.specs.Leaf_phases.{Suits, serves}
use Rattle.gq_model.specs.machine.Rest.{can_run}
use Rattle.gq_laws.specs.Turn_effects.{steps_of}
use Rattle.gq_laws.specs.internal.Section_counts.{Since, since_rest, steps_taken, steps_if, IsCounted}
use Rattle.gq_laws.proofs.verified_programs.Sound_systems.{is_resolved}
use Rattle.gq_laws.proofs.verified_programs.Use_chains.{resolved_acyclic}
use Rattle.gq_laws.proofs.input_settings.Setting_keeps_invariants.{set_counted, submit_counted}
use Rattle.gq_laws.proofs.step_counts.Counted_worlds.{counted_on, steps_at}
use Rattle.gq_laws.proofs.step_counts.Rest_counted.{rest_counted}
use Rattle.gq_laws.proofs.step_counts.Steps_within_budget.{steps_since}
use Rattle.gq_laws.proofs.upheld_worlds.Standing_world_invariant.{stands_upheld}
use Rattle.gq_model.proofs.Small_facts.{some_same, none_some, get_within}
use Rattle.std.proofs.lemmas.Option.{slice_get_within}
use Rattle.gq_laws.proofs.step_counts.Section_request_sums.{times_plus}
use Rattle.gq_laws.proofs.progress.Signals_left.{once_of, once_moves, steps_by, leaves_less}
use Rattle.gq_laws.proofs.progress.Work_ends.{leaf_of_steps, step_adds, rounds_count, lasts_rounds}
use Rattle.gq_laws.proofs.progress.No_deadlock.{rest_or_run}
use Rattle.gq_laws.proofs.progress.Run_turn_composition.{after_both}
use Rattle.gq_laws.proofs.input_settings.Setting_counts_nothing.{submit_steps}
use Rattle.gq_laws.proofs.progress.Lasting_world_invariant.{Lasts, lasts_next, lasts_set, lasts_submit}

-- EACH LEAF

module _ (s : Scenario) where
  abbrev real : System
  real = system s

  -- a world that lasts, with its steps counted since another one
  record GoesOn (since : Since) (w : World) : Type 0 where
    lasts : Lasts s w
    counted : IsCounted since real w

  after_turn : (since : Since) (w : World) → GoesOn since w → (x : ℕ) → GoesOn since (world_after w (next real w x))
  after_turn since w h x =
      let p = (stands_upheld s w h.lasts.stands).goes_on x in
      let k = h.lasts.stands in
      subst (λ r. GoesOn since (world_after w r)) (sym p.1) (record {
        lasts = lasts_next s k.sound w x p.0.0 p.0.1 h.lasts p.1;
        counted = counted_on s k.sound w k.whole k.linked k.left since h.counted x p.0.0 p.0.1 p.1;
      })

  after_all : (since : Since) (w : World) → GoesOn since w → (moves : List Move) → GoesOn since (after_moves real w moves)
  after_all since w h [] = h
  after_all since w h (Turn_of x ∷ moves) = after_all since (world_after w (next real w x)) (after_turn since w h x) moves
  after_all since w h (Setting_of x i n ∷ moves) =
      after_all since (set_input real w x i n)
      (record { lasts = lasts_set s h.lasts.stands.sound w x i n h.lasts; counted = set_counted since real w x i n h.counted }) moves
  after_all since w h (Signal_of x i ∷ moves) =
      after_all since (submit w x i)
      (record { lasts = lasts_submit s h.lasts.stands.sound w x i h.lasts; counted = submit_counted since real w x i h.counted }) moves

  at_rest : (v : World) → Lasts s v → AllRest v → GoesOn (since_rest v) v
  at_rest v h rest = record {
    lasts = h;
    counted = rest_counted real v h.stands.linked rest h.stands.counted.promised _ h.stands.counted.typed;
  }

  pub reacts_within : (v : World) → Lasts s v → ReactsWithin s v
  reacts_within v h rest moves x c old leaf placed was there =
      let w = after_moves real v moves in
      let g = after_all (since_rest v) v (at_rest v h rest) moves in
      let most = steps_since real (resolved_acyclic s (is_resolved s h.stands.sound.accepted)) (since_rest v) h.stands.whole w g.lasts.stands.whole g.counted
      x c leaf placed there in
      let same : steps_taken v x ≡ old.steps = ap steps_if was in
      let none : 0 * (step_budget real x c).from_start ≡ 0 = omega arith in
      omega (arith, most, same, none)

-- ONE SIGNAL

-- where no signal is submitted, none is left to be taken
calm : (signals : List Signal) → first_signal signals ≡ None → once_taken signals ≡ signals
calm [] e = refl
calm (s ∷ rest) e = by s.submitted refl (first_signal rest) (λ f. calm rest f) e
  where
    by : (b : Bool) → s.submitted ≡ b → (o : Option (ℕ × List Signal)) → (o ≡ None → once_taken rest ≡ rest)
        → cond b (Some (0, record { submitted = false; taken = suc s.taken } ∷ rest)) (later_signal s o) ≡ None → once_taken (s ∷ rest) ≡ s ∷ rest
    by true is o f e = absurd (none_some (sym e))
    by false is None f e = ap (λ b. cond b (record { submitted = false; taken = suc s.taken }) s ∷ once_taken rest) is ∙ ap (λ l. s ∷ l) (f refl)
    by false is (Some q) f e = absurd (none_some (sym e))

-- and so it is of its rest
calm_first : (s : Signal) (rest : List Signal) → once_taken (s ∷ rest) ≡ s ∷ rest → once_taken rest ≡ rest
calm_first s rest e = ap (drop 1) e

-- one signal more that is submitted is taken once more
one_more : (signals : List Signal) → once_taken signals ≡ signals → (i : ℕ) (steps : List ℕ)
    → taken_steps (once_taken (signals_with signals i)) steps ≤ taken_steps signals steps + slice_index steps i
one_more [] e i steps = omega arith
one_more (s ∷ rest) e zero [] = omega arith
one_more (s ∷ rest) e (suc i) [] = omega arith
one_more (s ∷ rest) e zero (n ∷ steps) =
    let further = ap (λ l. taken_steps l steps) (calm_first s rest e) in
    let here = times_plus 1 s.taken n in
    omega (arith, further, here)
one_more (s ∷ rest) e (suc i) (n ∷ steps) =
    let further = one_more rest (calm_first s rest e) i steps in
    let here = ap (λ l. taken_steps (take 1 l) (n ∷ [])) e in
    omega (arith, further, here)

abbrev AllCalm : List Leaf → Type 0
AllCalm [] = Unit {0}
AllCalm (l ∷ rest) = (once_taken l.signals ≡ l.signals) × AllCalm rest

all_calm : (leaves : List Leaf) → AllCalm leaves → (steps : List (List ℕ))
    → steps_by (map once_taken (map (λ (l : Leaf). l.signals) leaves)) steps ≡ reaction_steps leaves steps
all_calm [] h steps = refl
all_calm (l ∷ rest) h [] = refl
all_calm (l ∷ rest) h (n ∷ steps) = let further = all_calm rest h.1 steps in let here = ap (λ l. taken_steps l n) h.0 in omega (arith, further, here)

set_more : (leaves : List Leaf) → AllCalm leaves → (y i : ℕ) (leaf : Leaf) → slice_get leaves y ≡ Some leaf → (steps : List (List ℕ))
    → steps_by (map once_taken (map (λ (l : Leaf). l.signals) (slice_set leaves y (record leaf { signals = signals_with leaf.signals i })))) steps
    ≤ reaction_steps leaves steps + slice_index (slice_index_or steps y []) i
set_more [] h y i leaf e steps = absurd (none_some e)
set_more (l ∷ rest) h zero i leaf e [] = omega arith
set_more (l ∷ rest) h zero i leaf e (n ∷ steps) =
    let same : l ≡ leaf = some_same e in
    let here = one_more l.signals h.0 i n in
    let first = ap (λ (l : Leaf). taken_steps (once_taken (signals_with l.signals i)) n) same in
    let further = all_calm rest h.1 steps in
    omega (arith, here, first, further)
set_more (l ∷ rest) h (suc y) i leaf e [] = omega arith
set_more (l ∷ rest) h (suc y) i leaf e (n ∷ steps) =
    let further = set_more rest h.1 y i leaf e steps in
    let here = ap (λ l. taken_steps l n) h.0 in
    omega (arith, further, here)

-- sums over leaves
total_both : (ns ms ks : List ℕ) → ((x n : ℕ) → slice_get ns x ≡ Some n
    → (m : ℕ) × (k : ℕ) × (slice_get ms x ≡ Some m) × (slice_get ks x ≡ Some k) × (n ≤ m + k))
    → sum_by (λ (n : ℕ). n) ns ≤ sum_by (λ (n : ℕ). n) ms + sum ks
total_both [] ms ks h = omega arith
total_both (n ∷ ns) [] ks h = absurd (none_some (h zero n refl).2)
total_both (n ∷ ns) (m ∷ ms) [] h = absurd (none_some (h zero n refl).3)
total_both (n ∷ ns) (m ∷ ms) (k ∷ ks) h =
    let first = h zero n refl in
    let a = some_same first.2 in
    let b = some_same first.3 in
    let le = first.4 in
    let rest = total_both ns ms ks (λ x j e. h (suc x) j e) in
    let one : sum ks ≡ sum_by (λ (n : ℕ). n) ks = refl in
    let all : sum (k ∷ ks) ≡ sum_by (λ (n : ℕ). n) (k ∷ ks) = refl in
    omega (arith, a, b, le, rest, one, all, sum_by-cons (λ (n : ℕ). n) n ns, sum_by-cons (λ (n : ℕ). n) m ms, sum_by-cons (λ (n : ℕ). n) k ks)

of_signal : (bs : List Budget) (y i x : ℕ) (b : Budget) → slice_get bs x ≡ Some b
    → slice_get (steps_of_signal y i bs) x ≡ Some (slice_index (slice_index_or b.steps.for_signals y []) i)
of_signal [] y i x b e = absurd (none_some e)
of_signal (a ∷ bs) y i zero b e = ap (λ (b : Budget). Some (slice_index (slice_index_or b.steps.for_signals y []) i)) (some_same e)
of_signal (a ∷ bs) y i (suc x) b e = of_signal bs y i x b e

module _ (s : Scenario) (v : World) (h : Lasts s v) (rest : AllRest v) where
  calm_leaf : (x : ℕ) (c : Component) (leaf : Leaf) → slice_get (components s) x ≡ Some c → slice_get v.leaves x ≡ Some leaf
      → once_taken leaf.signals ≡ leaf.signals
  calm_leaf x c leaf placed there = by leaf.phase refl (rest x leaf there)
    where
      none_submitted : (o : Option (ℕ × List Signal)) (b : Bool) → not (is_some o || b) ≡ true → o ≡ None
      none_submitted None b e = refl
      none_submitted (Some p) b e = absurd (false≢true e)

      none : (signals : List Signal) → length signals ≡ 0 → once_taken signals ≡ signals
      none [] e = refl
      none (t ∷ more) e = absurd (omega (arith, e))

      few : (provides : Option (List ℕ)) (n : ℕ) → serves provides n ≡ false → n ≡ 0
      few provides n e =
          let zero = (or_parts (is_some provides) (nat_lt 0 n) e).1 in
          elim (cases_lt 0 n) [ inl less ↦ absurd (true≢false (sym (lt-ltb 0 n less) ∙ zero)) | inr le ↦ omega (arith, le) ]

      by : (phase : Phase) → leaf.phase ≡ phase → rests v x leaf phase ≡ true → once_taken leaf.signals ≡ leaf.signals
      by Pending e f = absurd (false≢true f)
      by Running e f = absurd (false≢true f)
      by Blocked e f = absurd (false≢true f)
      by Serving e f = calm leaf.signals (none_submitted (first_signal leaf.signals) (is_some (oldest v x v.requests)) f)
      by Handling e f = absurd (false≢true f)
      by Exited e f = none leaf.signals (h.stands.whole.signals x c leaf placed there
          ∙ few c.node.provides c.node.signals (subst (Suits c.node.provides c.node.signals) e (h.ready.suits x c leaf placed there)))

  all_calm_from : (cs : List Component) (leaves : List Leaf) → length leaves ≡ length cs
      → ((x : ℕ) (c : Component) (leaf : Leaf) → slice_get cs x ≡ Some c → slice_get leaves x ≡ Some leaf → once_taken leaf.signals ≡ leaf.signals)
      → AllCalm leaves
  all_calm_from cs [] e f = tt
  all_calm_from [] (l ∷ leaves) e f = absurd (omega (arith, e))
  all_calm_from (c ∷ cs) (l ∷ leaves) e f =
      (f zero c l refl refl, all_calm_from cs leaves (omega (arith, e)) (λ x d m placed there. f (suc x) d m placed there))

  are_calm : AllCalm v.leaves
  are_calm = all_calm_from (components s) v.leaves h.stands.whole.count calm_leaf

  -- what all signals come to once one is submitted
  submitted_more : (y i : ℕ) (steps : List (List ℕ)) → steps_by (once_of (submit v y i)) steps ≤ reaction_steps v.leaves steps + slice_index
      (slice_index_or steps y []) i
  submitted_more y i steps = by (slice_get v.leaves y) refl
    where
      by : (o : Option Leaf) → slice_get v.leaves y ≡ o
          → steps_by (once_of (submit_in v y i o)) steps ≤ reaction_steps v.leaves steps + slice_index (slice_index_or steps y []) i
      by None e = let same = all_calm v.leaves are_calm steps in omega (arith, same)
      by (Some leaf) e = set_more v.leaves are_calm y i leaf e steps

  module _ (y i : ℕ) (moves : List Move) (none : any_of is_signal_move moves ≡ false) where
    abbrev w : World
    w = after_moves (system s) (submit v y i) moves

    lasts : Lasts s (submit v y i)
    lasts = lasts_submit s h.stands.sound v y i h

    then_lasts : Lasts s w
    then_lasts = (once_moves s (submit v y i) lasts moves none).1

    each : (x n : ℕ) → slice_get (steps_of w) x ≡ Some n
        → (m : ℕ) × (k : ℕ) × (slice_get (steps_of v) x ≡ Some m) × (slice_get (steps_of_signal y i (budgets s)) x ≡ Some k) × (n ≤ m + k)
    each x n e =
        let leaf = leaf_of_steps w.leaves x n e in
        let below = slice_get_within w.leaves x leaf.0 leaf.1 in
        let count = then_lasts.stands.whole.count in
        let before = h.stands.whole.count in
        let c = get_within (components s) x (omega (arith, below, count)) in
        let old = get_within v.leaves x (omega (arith, below, count, before)) in
        let most = reacts_within s v h rest (Signal_of y i ∷ moves) x c.0 old.0 leaf.0 c.1 old.1 leaf.1 in
        let steps = (budget_of s x c.0).steps.for_signals in
        let less = leaves_less w.leaves steps in
        let same = ap (λ l. steps_by l steps) (once_moves s (submit v y i) lasts moves none).0 in
        let more = submitted_more y i steps in
        let reported = ((stands_upheld s v h.stands).keeps_budgets x c.0 c.1).reported in
        let taken = leaf.2 in (
          old.0.steps,
          _,
          steps_at v.leaves x old.0 old.1,
          of_signal (budgets s) y i x (budget_of s x c.0) reported,
          omega
              (arith, most, less, same, more, taken),
        )

    pub one_reacts : taken w ≤ taken v + reaction s y i
    one_reacts = total_both (steps_of w) (steps_of v) (steps_of_signal y i (budgets s)) each

-- ROUNDS

-- the moves of some rounds
abbrev all_moves : List (List Move) → List Move
all_moves [] = []
all_moves (round ∷ rounds) = round ++ all_moves rounds

rounds_are : (system : System) (w : World) (rounds : List (List Move)) → after_rounds system w rounds ≡ after_moves system w (all_moves rounds)
rounds_are system w [] = refl
rounds_are system w (round ∷ rounds) = rounds_are system (after_moves system w round) rounds ∙ sym (after_both system w round (all_moves rounds))

none_joined : (moves more : List Move) → any_of is_signal_move moves ≡ false → any_of is_signal_move more ≡ false
    → any_of is_signal_move (moves ++ more) ≡ false
none_joined [] more e f = f
none_joined (m ∷ moves) more e f =
    let p = or_parts (is_signal_move m) (any_of is_signal_move moves) e in (λ i. p.0 i || none_joined moves more p.1 f i)

none_in_all : (rounds : List (List Move)) → NoSignals rounds → any_of is_signal_move (all_moves rounds) ≡ false
none_in_all [] none = refl
none_in_all (round ∷ rounds) none = none_joined round (all_moves rounds) none.0 (none_in_all rounds none.1)

module _ (s : Scenario) (v : World) (h : Lasts s v) (rest : AllRest v) (y i : ℕ) where
  abbrev u : World
  u = submit v y i

  started : Lasts s u
  started = lasts_submit s h.stands.sound v y i h

  pub reaction_ends : (rounds : List (List Move)) → Each (IsRound (system s)) rounds → NoSignals rounds → reaction s y i ≤ length rounds
      → AllRest (after_rounds (system s) u rounds)
  reaction_ends rounds all none enough = elim (rounds_count s u started rounds all none) [
    | inl still ↦ still
    | inr many ↦ elim (rest_or_run s (after_rounds (system s) u rounds) (lasts_rounds s u started rounds)) [
      | inl still ↦ still
      | inr run ↦ absurd (too_many many run.0 run.1)
    ]
  ]
    where
      too_many : taken u + length rounds ≤ taken (after_rounds (system s) u rounds) → (x : ℕ) → can_run (system s) (after_rounds (system s) u rounds) x ≡ true
          → ⊥
      too_many many x can =
          let w = after_rounds (system s) u rounds in
          let last = lasts_rounds s u started rounds in
          let p = (stands_upheld s w last.stands).goes_on x in
          let adds = step_adds (system s) w x p.0.0 p.0.1 can p.1 in
          let moves = all_moves rounds ++ Turn_of x ∷ [] in
          let none_more = none_joined (all_moves rounds) (Turn_of x ∷ []) (none_in_all rounds none) refl in
          let most = one_reacts s v h rest y i moves none_more in
          let end : after_moves (system s) u moves ≡ p.0.0 =
          after_both (system s) u (all_moves rounds) (Turn_of x ∷ [])
          ∙ (ap (λ w. world_after w (next (system s) w x)) (sym (rounds_are (system s) u rounds)) ∙ ap (world_after w) p.1) in
          let same = ap taken end in
          let kept = ap (sum_by (λ (n : ℕ). n)) (submit_steps v y i) in
          omega (arith, many, adds, most, same, kept, enough)
