-- The budgets of steps in two worlds are the same, where all signals were taken as often.
use Rattle.std.proofs.Common.{◌≡◌, ℕ, suc, ◌+◌, List, [], ◌∷◌, refl, ap, sym}
use Rattle.std.specs.Prelude.{option_map, slice_get}
use Rattle.gq_model.specs.machine.Step_budgets.{StepBudget, taken_steps, reaction_steps, steps_in, all_steps_in}
use Rattle.gq_model.specs.machine.World.{Signal, Leaf, World}
use Rattle.gq_model.proofs.Small_facts.{none_some, some_same}

abbrev pub signals_in : Leaf → List Signal
signals_in leaf = leaf.signals

reactions_same : (leaves others : List Leaf)
    → ((y : ℕ) → option_map signals_in (slice_get others y) ≡ option_map signals_in (slice_get leaves y)) → (steps : List (List ℕ))
    → reaction_steps others steps ≡ reaction_steps leaves steps
reactions_same [] [] same steps = refl
reactions_same [] (m ∷ others) same steps = absurd (none_some (sym (same 0)))
reactions_same (l ∷ leaves) [] same steps = absurd (none_some (same 0))
reactions_same (l ∷ leaves) (m ∷ others) same [] = refl
reactions_same (l ∷ leaves) (m ∷ others) same (n ∷ steps) =
    let more = reactions_same leaves others (λ y. same (suc y)) steps in λ j. taken_steps (some_same (same 0) j) n + more j

pub budgets_same : (w v : World) → ((y : ℕ) → option_map signals_in (slice_get v.leaves y) ≡ option_map signals_in (slice_get w.leaves y))
    → (budgets : List StepBudget) → all_steps_in v budgets ≡ all_steps_in w budgets
budgets_same w v same [] = refl
budgets_same w v same (b ∷ rest) =
    let here : steps_in v b ≡ steps_in w b = ap (λ n. b.from_start + n) (reactions_same w.leaves v.leaves same b.for_signals) in
    λ j. here j ∷ budgets_same w v same rest j
