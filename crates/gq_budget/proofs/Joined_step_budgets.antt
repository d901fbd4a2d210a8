-- The steps of leaves for each cause, put together, are the budgets of the system.
use Rattle.std.proofs.Common.{◌≡◌, ◌<◌, ℕ, zero, suc, arith, ◌+◌, ◌-◌, List, [], ◌∷◌, map, length, get_or, Some, refl, ap, ◌∙◌}
use Rattle.std.specs.Prelude.{slice_get}
use Rattle.gq_model.specs.machine.Scenario.{System, Component}
use Rattle.gq_model.specs.rules.Use.{Cause, The_start, A_signal, steps_for, steps_for_signals, steps_for_leaves}
use Rattle.gq_verify.specs.Saturated_numbers.{saturated}
use Rattle.gq_budget.specs.Leaf_routes.{leaves_from, leaves_of}
use Rattle.gq_budget.specs.Leaf_section_counts.{Counted, AreCountsOf}
use Rattle.gq_budget.specs.Step_budgets.{budgets_from, budgets_of}
use Rattle.gq_budget.specs.internal.Run_rounds.{Used}
use Rattle.gq_budget.specs.internal.Signal_steps.{steps_by, signal_rows, signal_tables, column, joined}
use Rattle.gq_budget.proofs.Saturated_run_counts.{cause_steps}
use Rattle.gq_model.proofs.Small_facts.{add_none, none_add, add_next}

-- one signal more
pub rows_next : (ns : List Counted) (used : Used) (y i n : ℕ) → i < n
    → signal_rows ns used y i (n - i) ≡ steps_by ns used (A_signal y i) ∷ signal_rows ns used y (i + 1) (n - (i + 1))
rows_next ns used y i n less =
    let left : n - i ≡ suc (n - (i + 1)) = omega (arith, less) in
    let next : suc i ≡ i + 1 = omega arith in
    ap (signal_rows ns used y i) left ∙ ap (λ k. steps_by ns used (A_signal y i) ∷ signal_rows ns used y k (n - (i + 1))) next

-- none is left
pub rows_none : (ns : List Counted) (used : Used) (y i n : ℕ) → n ≡ i → signal_rows ns used y i (n - i) ≡ []
rows_none ns used y i n past = let left : n - i ≡ 0 = omega (arith, past) in ap (signal_rows ns used y i) left

module _ (system : System) (ns : List Counted) (used : Used)
    (same : (cause : Cause) → steps_by ns used cause ≡ cause_steps cause system 0 system.components) where
  steps_from : (cause : Cause) (x y : ℕ) (c : Component) (cs : List Component) → slice_get cs x ≡ Some c
      → get_or (cause_steps cause system y cs) x 0 ≡ saturated (steps_for cause system (y + x) c)
  steps_from cause x y c [] e = absurd cc
  steps_from cause zero y c (d ∷ cs) e = let is : d ≡ c = cc in λ i. saturated (steps_for cause system (add_none y i) (is i))
  steps_from cause (suc x) y c (d ∷ cs) e =
      steps_from cause x (suc y) c cs e ∙ ap (λ n. saturated (steps_for cause system n c)) (add_next y x)

  -- the steps of the x-th leaf
  steps_at : (cause : Cause) (x : ℕ) (c : Component) → slice_get system.components x ≡ Some c
      → get_or (steps_by ns used cause) x 0 ≡ saturated (steps_for cause system x c)
  steps_at cause x c e =
      ap (λ l. get_or l x 0) (same cause)
      ∙ (steps_from cause x 0 c system.components e ∙ ap (λ n. saturated (steps_for cause system n c)) (none_add x))

  module _ (x : ℕ) (c : Component) (there : slice_get system.components x ≡ Some c) where
    column_is : (y i n : ℕ) → column x (signal_rows ns used y i n) ≡ map saturated (steps_for_signals system x c y i n)
    column_is y i zero = refl
    column_is y i (suc n) = λ j. steps_at (A_signal y i) x c there j ∷ column_is y (suc i) n j

    columns_are : (y : ℕ) (ms : List Counted) (ds : List Component) → AreCountsOf ms (leaves_from system ds)
        → map (column x) (signal_tables ns used y ms) ≡ map (map saturated) (steps_for_leaves system x c y ds)
    columns_are y [] [] h = refl
    columns_are y [] (d ∷ ds) h = absurd h
    columns_are y (m ∷ ms) [] h = absurd h
    columns_are y (m ∷ ms) (d ∷ ds) h =
        ap (λ k. column x (signal_rows ns used y 0 k) ∷ map (column x) (signal_tables ns used (suc y) ms)) h.0.signals
        ∙ (λ j. column_is y 0 d.node.signals j ∷ columns_are (suc y) ms ds h.1 j)

  module _ (counts : AreCountsOf ns (leaves_of system)) where
    joined_from : (x : ℕ) (cs : List Component) → ((k : ℕ) → slice_get system.components (x + k) ≡ slice_get cs k)
        → joined x (cause_steps The_start system x cs) (signal_tables ns used 0 ns) ≡ budgets_from system x cs
    joined_from x [] at = refl
    joined_from x (c ∷ cs) at =
        let there : slice_get system.components x ≡ Some c = ap (λ n. slice_get system.components n) (add_none x) ∙ at 0 in
        let after : (k : ℕ) → slice_get system.components (suc x + k) ≡ slice_get cs k =
        λ k. ap (λ n. slice_get system.components n) (add_next x k) ∙ at (suc k) in
        λ j. record {
          from_start = saturated (steps_for The_start system x c);
          for_signals = columns_are x c there 0 ns system.components counts j;
        } ∷ joined_from (suc x) cs after j

    pub budgets_joined : joined 0 (steps_by ns used The_start) (signal_tables ns used 0 ns) ≡ budgets_of system
    budgets_joined =
        ap (λ starts. joined 0 starts (signal_tables ns used 0 ns)) (same The_start)
        ∙ joined_from 0 system.components (λ k. ap (λ n. slice_get system.components n) (none_add k))
