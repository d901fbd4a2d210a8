-- Budgets with steps that are kept as far as 64 bits go.
use Rattle.std.proofs.Common.{◌≡◌, ℕ, suc, ◌<◌, ◌≤◌, inl, inr, Bool, true, false, List, [], ◌∷◌, length, Option, Some, None, map}
use Rattle.std.proofs.Common.{refl, ap, ◌∙◌, sym, min, arith}
use Rattle.std.specs.Prelude.{◌-◌, ◌^◌, nat_le, ◌&&◌, if◌then◌else◌}
use Rattle.std.proofs.lemmas.Bool.{and_parts, leb-true}
use Rattle.std.proofs.lemmas.Bool.Decides.{leb_tells}
use Rattle.gq_model.specs.machine.Amounts.{Resource, part}
use Rattle.gq_model.specs.machine.Lists.{all_of}
use Rattle.gq_model.specs.machine.Scenario.{System, Interfaces, Component}
use Rattle.gq_model.specs.machine.Step_budgets.{StepBudget}
use Rattle.gq_model.specs.rules.Use.{step_budget}
use Rattle.gq_model.specs.rules.Verdict.{greatest_cost}
use Rattle.gq_model.specs.rules.Accept.{Refusal, budget, budgets_from, own_refusal, is_small, are_small, steps_refusal, Over_own, Over_steps}
use Rattle.gq_verify.specs.Saturated_numbers.{saturated}
use Rattle.gq_budget.specs.Step_budgets as steps
use Rattle.gq_budget.specs.Step_budgets.{kept}
use Rattle.gq_load.specs.internal.Judged_programs.{judged_by}
use Rattle.gq_load.specs.internal.Saturated_budgets.{budget_with, budgets_with, kept_from}
use Rattle.gq_load.specs.internal.Surveys.{own_of}
use Rattle.gq_model.proofs.Small_facts.{some_none}

-- programs with their step budgets
pub kept_same : (version : ℕ) (system : System) (x : ℕ) (cs : List Component)
    → budgets_with version (map (λ c. own_of (judged_by system.interfaces c)) cs) (steps.budgets_from system x cs) ≡ kept_from version system x cs
kept_same version system x [] = refl
kept_same version system x (c ∷ rest) = ap (λ l. budget_with version (judged_by system.interfaces c) (kept (step_budget system x c)) ∷ l)
    (kept_same version system (suc x) rest)

-- what leaves use of their own accounts is kept
pub own_kept : (r : Resource) (version : ℕ) (system : System) (x : ℕ) (cs all : List Component)
    → own_refusal r cs (kept_from version system x all) ≡ own_refusal r cs (budgets_from version system x all)
own_kept r version system x [] all = refl
own_kept r version system x (c ∷ cs) [] = refl
own_kept r version system x (c ∷ cs) (d ∷ all) =
    let own = part r (budget version system x d).own in
    let quantum = part r c.node.quantum in
    ap (λ o. if nat_le own quantum then o else Some (Over_own r c.node.name own quantum)) (own_kept r version system (suc x) cs all)

-- a number is too great just where it is as far as it is kept
le_kept : (m g n : ℕ) → g < m → nat_le (min n m) g ≡ nat_le n g
le_kept m g n less =
    elim (leb_tells (min n m) g) [
      | inl a ↦
          elim (leb_tells n g) [
            | inl b ↦ a.0 ∙ sym b.0
            | inr b ↦
                let h = a.1 in
                let k = b.1 in absurd (omega (arith, less, h, k))
          ]
      | inr a ↦
          elim (leb_tells n g) [
            | inl b ↦
                let h = a.1 in
                let k = b.1 in absurd (omega (arith, h, k))
            | inr b ↦ a.0 ∙ sym b.0
          ]
    ]

cost_kept : greatest_cost < 2 ^ 64 - 1
cost_kept = omega arith

row_small : (steps : List ℕ) → all_of is_small (map saturated steps) ≡ all_of is_small steps
row_small [] = refl
row_small (n ∷ steps) = λ i. le_kept (2 ^ 64 - 1) greatest_cost n cost_kept i && row_small steps i

rows_small : (rows : List (List ℕ)) → all_of (all_of is_small) (map (map saturated) rows) ≡ all_of (all_of is_small) rows
rows_small [] = refl
rows_small (steps ∷ rows) = λ i. row_small steps i && rows_small rows i

same_small : (b : StepBudget) → are_small (kept b) ≡ are_small b
same_small b = λ i. le_kept (2 ^ 64 - 1) greatest_cost b.from_start cost_kept i && rows_small b.for_signals i

-- leaves that may take too many steps are found
pub steps_kept : (version : ℕ) (system : System) (x : ℕ) (cs all : List Component)
    → steps_refusal cs (kept_from version system x all) ≡ steps_refusal cs (budgets_from version system x all)
steps_kept version system x [] all = refl
steps_kept version system x (c ∷ cs) [] = refl
steps_kept version system x (c ∷ cs) (d ∷ all) =
    let n = step_budget system x d in
    ap (λ b. if b then steps_refusal cs (kept_from version system (suc x) all) else Some (Over_steps c.node.name)) (same_small n)
    ∙ ap (λ o. if are_small n then o else Some (Over_steps c.node.name)) (steps_kept version system (suc x) cs all)

kept_small : (m g n : ℕ) → g < m → n ≤ g → min n m ≡ n
kept_small m g n less small = omega (arith, less, small)

row_as_is : (steps : List ℕ) → all_of is_small steps ≡ true → map saturated steps ≡ steps
row_as_is [] e = refl
row_as_is (n ∷ steps) e =
    let p = and_parts (is_small n) (all_of is_small steps) e in
    λ i. kept_small (2 ^ 64 - 1) greatest_cost n cost_kept (leb-true n greatest_cost p.0) i ∷ row_as_is steps p.1 i

rows_as_is : (rows : List (List ℕ)) → all_of (all_of is_small) rows ≡ true → map (map saturated) rows ≡ rows
rows_as_is [] e = refl
rows_as_is (steps ∷ rows) e =
    let p = and_parts (all_of is_small steps) (all_of (all_of is_small) rows) e in λ i. row_as_is steps p.0 i ∷ rows_as_is rows p.1 i

kept_as_is : (b : StepBudget) → are_small b ≡ true → kept b ≡ b
kept_as_is b e =
    let p = and_parts (is_small b.from_start) (all_of (all_of is_small) b.for_signals) e in
    λ i. record {
      from_start = kept_small (2 ^ 64 - 1) greatest_cost b.from_start cost_kept (leb-true b.from_start greatest_cost p.0) i;
      for_signals = rows_as_is b.for_signals p.1 i;
    }

pub small_first : (b : Bool) (leaf : List ℕ) (rest : Option Refusal) → (if b then rest else Some (Over_steps leaf)) ≡ None → (b ≡ true) × (rest ≡ None)
small_first true leaf rest e = (refl, e)
small_first false leaf rest e = absurd (some_none e)

-- where no leaf may take too many steps, all are kept as they are
pub all_kept : (version : ℕ) (system : System) (x : ℕ) (cs : List Component) → steps_refusal cs (budgets_from version system x cs) ≡ None
    → kept_from version system x cs ≡ budgets_from version system x cs
all_kept version system x [] none = refl
all_kept version system x (c ∷ cs) none =
    let n = step_budget system x c in
    let p = small_first (are_small n) c.node.name (steps_refusal cs (budgets_from version system (suc x) cs)) none in
    ap (λ n. budget_with version (judged_by system.interfaces c) n ∷ kept_from version system (suc x) cs) (kept_as_is n p.0)
    ∙ ap (λ l. budget version system x c ∷ l) (all_kept version system (suc x) cs p.1)

-- there are as many budgets as leaves
pub steps_count : (system : System) (x : ℕ) (cs : List Component) → length (steps.budgets_from system x cs) ≡ length cs
steps_count system x [] = refl
steps_count system x (c ∷ rest) = ap suc (steps_count system (suc x) rest)

pub kept_count : (version : ℕ) (system : System) (x : ℕ) (cs : List Component) → length (kept_from version system x cs) ≡ length cs
kept_count version system x [] = refl
kept_count version system x (c ∷ rest) = ap suc (kept_count version system (suc x) rest)

pub owns_count : (interfaces : Interfaces) (cs : List Component) → length (map (λ c. own_of (judged_by interfaces c)) cs) ≡ length cs
owns_count interfaces [] = refl
owns_count interfaces (c ∷ rest) = ap suc (owns_count interfaces rest)
