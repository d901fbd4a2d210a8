-- No leaf takes more steps than its budget: for the start, and for the signals that were taken.
use Rattle.std.proofs.Common.{◌≡◌, ◌≤◌, ℕ, zero, suc, ◌+◌, ◌*◌, ◌&&◌, cond, List, [], ◌∷◌, ◌++◌, length, Option, Some, None, refl, ap, sym, ◌∙◌}
use Rattle.std.proofs.Common.{subst, arith}
use Rattle.std.specs.Prelude.{slice_get, if◌then◌else◌}
use Rattle.gq_model.specs.declared.section.Section.{Section}
use Rattle.gq_model.specs.declared.section.Section.TheVariants.{Main, Reacting}
use Rattle.gq_model.specs.machine.Scenario.{System, Component}
use Rattle.gq_model.specs.machine.World.{Signal, Leaf, World}
use Rattle.gq_model.specs.machine.Step_budgets.{taken_steps, reaction_steps}
use Rattle.gq_model.specs.rules.Resolve.{cycle_fault}
use Rattle.gq_model.specs.rules.Use.{Cause, The_start, A_signal, is_signal, times, steps_of, steps_for, steps_for_signals, steps_for_leaves, step_budget}
use Rattle.gq_laws.specs.Shapes.{IsWholeWorld}
use Rattle.gq_laws.specs.internal.Section_counts.{Often, Since, steps_taken, times_taken, taken_of, taken_in, IsCounted}
use Rattle.gq_model.proofs.Small_facts.{some_same, none_some, equal_self, add_none, add_next}
use Rattle.gq_laws.proofs.verified_programs.Times_bound.{times_by, counts_bounded}
use Rattle.gq_laws.proofs.step_counts.Section_request_sums.{times_plus, times_below, steps_below}
use Rattle.gq_laws.proofs.step_counts.Cause_sums.{Causes, sum_of, times_all, steps_all}
use Rattle.gq_laws.proofs.step_counts.Counted_worlds.{done_below}

-- SIGNALS AS CAUSES

-- each leaf has as many signals as its component
abbrev HaveSignals : List Component → List Leaf → Type 0
HaveSignals [] [] = Unit {0}
HaveSignals [] (l ∷ ls) = ⊥
HaveSignals (c ∷ cs) [] = ⊥
HaveSignals (c ∷ cs) (l ∷ ls) = (length l.signals ≡ c.node.signals) × HaveSignals cs ls

-- a sum over two lists of causes
sum_both : (causes more : Causes) (f : Cause → ℕ) → sum_of (causes ++ more) f ≡ sum_of causes f + sum_of more f
sum_both [] more f = omega arith
sum_both (c ∷ rest) more f = let further = sum_both rest more f in omega (arith, further)

module _ (done : Often) where
  -- the signals of the y-th leaf from the i-th on, each as often as its section was begun
  abbrev of_signals : ℕ → ℕ → ℕ → Causes
  of_signals y i zero = []
  of_signals y i (suc n) = (done y (Reacting i), A_signal y i) ∷ of_signals y (suc i) n

  -- those of the leaves from the y-th on
  abbrev of_leaves : ℕ → List Component → Causes
  of_leaves y [] = []
  of_leaves y (c ∷ rest) = of_signals y 0 c.node.signals ++ of_leaves (suc y) rest

  -- EACH SIGNAL'S SECTION IS AMONG THEM

  -- 1 for the signal that makes this section run
  abbrev runs : ℕ → ℕ → Cause → ℕ
  runs x i cause = if is_signal cause x i then 1 else 0

  its_own : (y i : ℕ) → runs y i (A_signal y i) ≡ 1
  its_own y i = (λ k. cond (equal_self y k && equal_self i k) 1 0)

  -- a leaf that has taken none of these signals
  cover_signals : (y i n : ℕ) (signals : List Signal) → length signals ≡ n → ((j : ℕ) → done y (Reacting (i + j)) ≤ times_taken signals j) → (j : ℕ)
      → done y (Reacting (i + j)) ≤ sum_of (of_signals y i n) (runs y (i + j))
  cover_signals y i zero [] e h j = h j
  cover_signals y i zero (s ∷ rest) e h j = absurd (omega (arith, e))
  cover_signals y i (suc n) [] e h j = absurd (omega (arith, e))
  cover_signals y i (suc n) (s ∷ rest) e h zero =
      let place : i + 0 ≡ i = sym (add_none i) in
      let one : runs y (i + 0) (A_signal y i) ≡ 1 = ap (λ k. runs y k (A_signal y i)) place ∙ its_own y i in
      let same = ap (λ k. done y (Reacting k)) place in
      let whole : done y (Reacting i) * runs y (i + 0) (A_signal y i) ≡ done y (Reacting i) * 1 = ap (λ m. done y (Reacting i) * m) one in
      omega (arith, same, whole)
  cover_signals y i (suc n) (s ∷ rest) e h (suc j) =
      let place : suc i + j ≡ i + suc j = add_next i j in
      let further : done y (Reacting (i + suc j)) ≤ sum_of (of_signals y (suc i) n) (runs y (i + suc j)) =
      subst (λ k. done y (Reacting k) ≤ sum_of (of_signals y (suc i) n) (runs y k)) place
      (cover_signals y (suc i) n rest (omega (arith, e)) (λ k. subst (λ m. done y (Reacting m) ≤ times_taken rest k) (sym (add_next i k)) (h (suc k))) j) in
      omega (arith, further)

  cover_leaves : (y : ℕ) (cs : List Component) (leaves : List Leaf) → HaveSignals cs leaves
      → ((k i : ℕ) → done (y + k) (Reacting i) ≤ taken_of (slice_get leaves k) i) → (k i : ℕ)
      → done (y + k) (Reacting i) ≤ sum_of (of_leaves y cs) (runs (y + k) i)
  cover_leaves y [] [] have h k i = h k i
  cover_leaves y [] (l ∷ ls) have h k i = absurd have
  cover_leaves y (c ∷ cs) [] have h k i = absurd have
  cover_leaves y (c ∷ cs) (l ∷ ls) have h zero i =
      let place : y + 0 ≡ y = sym (add_none y) in
      let same = ap (λ k. done k (Reacting i)) place in
      let here : done y (Reacting i) ≤ sum_of (of_signals y 0 c.node.signals) (runs y i) =
      subst (λ k. done y (Reacting k) ≤ sum_of (of_signals y 0 c.node.signals) (runs y k)) {x = 0 + i} (omega arith)
      (cover_signals y 0 c.node.signals l.signals have.0 (λ j. subst (λ k. done y (Reacting k) ≤ times_taken l.signals j) {x = j} (omega arith)
      (subst (λ m. done m (Reacting j) ≤ times_taken l.signals j) place (h 0 j))) i) in
      let both : sum_of (of_leaves y (c ∷ cs)) (runs (y + 0) i) ≡ sum_of (of_signals y 0 c.node.signals) (runs y i) + sum_of (of_leaves (suc y) cs) (runs y i) =
      ap (λ k. sum_of (of_leaves y (c ∷ cs)) (runs k i)) place ∙ sum_both (of_signals y 0 c.node.signals) (of_leaves (suc y) cs) (runs y i) in
      omega (arith, same, here, both)
  cover_leaves y (c ∷ cs) (l ∷ ls) have h (suc k) i =
      let place : suc y + k ≡ y + suc k = add_next y k in
      let further : done (y + suc k) (Reacting i) ≤ sum_of (of_leaves (suc y) cs) (runs (y + suc k) i) =
      subst (λ m. done m (Reacting i) ≤ sum_of (of_leaves (suc y) cs) (runs m i)) place
      (cover_leaves (suc y) cs ls have.1 (λ n j. subst (λ m. done m (Reacting j) ≤ taken_of (slice_get ls n) j) (sym (add_next y n)) (h (suc n) j)) k i) in
      let both = sum_both (of_signals y 0 c.node.signals) (of_leaves (suc y) cs) (runs (y + suc k) i) in
      omega (arith, further, both)

  -- THEY COST NO MORE THAN WHAT WAS TAKEN

  module _ (system : System) (x : ℕ) (c : Component) where
    abbrev cost_of : Cause → ℕ
    cost_of cause = steps_for cause system x c

    pay_signals : (y i n : ℕ) (old new : List Signal) → length old ≡ n → length new ≡ n
        → ((j : ℕ) → done y (Reacting (i + j)) + times_taken old j ≤ times_taken new j)
        → sum_of (of_signals y i n) cost_of + taken_steps old (steps_for_signals system x c y i n) ≤ taken_steps new (steps_for_signals system x c y i n)
    pay_signals y i zero [] [] e f h = omega arith
    pay_signals y i zero [] (t ∷ new) e f h = absurd (omega (arith, f))
    pay_signals y i zero (s ∷ old) new e f h = absurd (omega (arith, e))
    pay_signals y i (suc n) [] new e f h = absurd (omega (arith, e))
    pay_signals y i (suc n) (s ∷ old) [] e f h = absurd (omega (arith, f))
    pay_signals y i (suc n) (s ∷ old) (t ∷ new) e f h =
        let further = pay_signals y (suc i) n old new (omega (arith, e)) (omega (arith, f))
        (λ j. subst (λ m. done y (Reacting m) + times_taken old j ≤ times_taken new j) (sym (add_next i j)) (h (suc j))) in
        let first : done y (Reacting i) + s.taken ≤ t.taken =
        subst (λ m. done y (Reacting m) + s.taken ≤ t.taken) (sym (add_none i)) (h 0) in
        let cost = cost_of (A_signal y i) in
        let here = times_below (done y (Reacting i) + s.taken) t.taken cost first in
        let both = times_plus (done y (Reacting i)) s.taken cost in
        omega (arith, further, here, both)

    pay_leaves : (y : ℕ) (cs : List Component) (old new : List Leaf) → HaveSignals cs old → HaveSignals cs new
        → ((k i : ℕ) → done (y + k) (Reacting i) + taken_of (slice_get old k) i ≤ taken_of (slice_get new k) i)
        → sum_of (of_leaves y cs) cost_of + reaction_steps old (steps_for_leaves system x c y cs) ≤ reaction_steps new (steps_for_leaves system x c y cs)
    pay_leaves y [] [] [] e f h = omega arith
    pay_leaves y [] [] (m ∷ new) e f h = absurd f
    pay_leaves y [] (l ∷ old) new e f h = absurd e
    pay_leaves y (d ∷ cs) [] new e f h = absurd e
    pay_leaves y (d ∷ cs) (l ∷ old) [] e f h = absurd f
    pay_leaves y (d ∷ cs) (l ∷ old) (m ∷ new) e f h =
        let further = pay_leaves (suc y) cs old new e.1 f.1
        (λ k i. subst (λ n. done n (Reacting i) + taken_of (slice_get old k) i ≤ taken_of (slice_get new k) i) (sym (add_next y k)) (h (suc k) i)) in
        let here = pay_signals y 0 d.node.signals l.signals m.signals e.0 f.0
        (λ j. subst (λ k. done y (Reacting k) + times_taken l.signals j ≤ times_taken m.signals j) {x = j} (omega arith)
        (subst (λ n. done n (Reacting j) + times_taken l.signals j ≤ times_taken m.signals j) (sym (add_none y)) (h 0 j))) in
        let both = sum_both (of_signals y 0 d.node.signals) (of_leaves (suc y) cs) cost_of in
        omega (arith, further, here, both)

-- WORLDS

have_signals : (cs : List Component) (leaves : List Leaf) → length leaves ≡ length cs
    → ((k : ℕ) (c : Component) (l : Leaf) → slice_get cs k ≡ Some c → slice_get leaves k ≡ Some l → length l.signals ≡ c.node.signals) → HaveSignals cs leaves
have_signals [] [] e h = tt
have_signals [] (l ∷ ls) e h = absurd (omega (arith, e))
have_signals (c ∷ cs) [] e h = absurd (omega (arith, e))
have_signals (c ∷ cs) (l ∷ ls) e h = (h 0 c l refl refl, have_signals cs ls (omega (arith, e)) (λ k d m p q. h (suc k) d m p q))

of_whole : (system : System) (w : World) → IsWholeWorld system w → HaveSignals system.components w.leaves
of_whole system w h = have_signals system.components w.leaves h.count h.signals

-- no leaf has taken more steps since then than for the starts of `main` and for the signals that were taken
module _ (system : System) (resolved : cycle_fault system 0 system.components ≡ None) (since : Since) (before : IsWholeWorld system since.world) (w : World)
    (whole : IsWholeWorld system w) (k : IsCounted since system w) where
  abbrev n : ℕ
  n = length system.components

  abbrev causes : Causes
  causes = (since.starts, The_start) ∷ of_leaves k.done 0 system.components

  own_main : (x : ℕ) → k.done x Main ≤ sum_of causes (λ c. times 0 c system x Main)
  own_main x = let most = k.counts.once x in let one : since.starts * 1 ≡ since.starts = omega arith in omega (arith, most, one)

  own_signal : (x i : ℕ) → k.done x (Reacting i) ≤ sum_of causes (λ c. times 0 c system x (Reacting i))
  own_signal x i =
      let most : (y j : ℕ) → k.done (0 + y) (Reacting j) ≤ taken_in w y j =
      λ y j. subst (λ z. k.done z (Reacting j) ≤ taken_in w y j) {x = y} (omega arith) (let all = k.counts.reacted y j in omega (arith, all)) in
      let covered : k.done x (Reacting i) ≤ sum_of (of_leaves k.done 0 system.components) (runs k.done x i) =
      subst (λ z. k.done z (Reacting i) ≤ sum_of (of_leaves k.done 0 system.components) (runs k.done z i)) {x = 0 + x} (omega arith)
      (cover_leaves k.done 0 system.components w.leaves (of_whole system w whole) most x i) in
      omega (arith, covered)

  pub steps_since : (x : ℕ) (c : Component) (leaf : Leaf) → slice_get system.components x ≡ Some c → slice_get w.leaves x ≡ Some leaf
      → leaf.steps + reaction_steps since.world.leaves (step_budget system x c).for_signals
      ≤ steps_taken since.world x + since.starts * (step_budget system x c).from_start + reaction_steps w.leaves (step_budget system x c).for_signals
  steps_since x c leaf there at =
      let taken = k.counts.taken x c leaf there at in
      let sections = c.node.program.sections in
      let bounded = steps_below (k.done x) (times_by k.done n system x)
      (counts_bounded system resolved k.done (done_below since system w k) x) sections in
      let all = steps_below (times_by k.done n system x) (λ q. sum_of causes (λ d. times n d system x q))
      (times_all system causes k.done own_main own_signal n x) sections in
      let each = steps_all (λ d. times n d system x) causes sections in
      let pays = pay_leaves k.done system x c 0 system.components since.world.leaves w.leaves (of_whole system since.world before) (of_whole system w whole)
      (λ y i. subst (λ z. k.done z (Reacting i) + taken_in since.world y i ≤ taken_in w y i) {x = y} (omega arith) (k.counts.reacted y i)) in
      omega (arith, taken, bounded, all, each, pays)
