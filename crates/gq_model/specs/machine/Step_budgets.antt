-- How many steps a leaf may have taken in a world.
use Rattle.std.specs.Prelude.{ℕ, ◌+◌, ◌*◌, List, [], ◌∷◌}
use Rattle.gq_model.specs.machine.World.{Signal, Leaf, World}

-- a leaf's steps: for the start, and for each signal of each leaf
pub record StepBudget : Type 0 where
  pub from_start : ℕ
  pub for_signals : List (List ℕ)

-- each signal as often as it was taken
abbrev pub taken_steps : List Signal → List ℕ → ℕ
taken_steps (s ∷ signals) (n ∷ steps) = s.taken * n + taken_steps signals steps
taken_steps [] steps = 0
taken_steps (s ∷ signals) [] = 0

abbrev pub reaction_steps : List Leaf → List (List ℕ) → ℕ
reaction_steps (leaf ∷ leaves) (steps ∷ rest) = taken_steps leaf.signals steps + reaction_steps leaves rest
reaction_steps [] rest = 0
reaction_steps (leaf ∷ leaves) [] = 0

-- the budget of steps in a world: for the start, and for all signals that were taken
abbrev pub steps_in : World → StepBudget → ℕ
steps_in w b = b.from_start + reaction_steps w.leaves b.for_signals

abbrev pub all_steps_in : World → List StepBudget → List ℕ
all_steps_in w [] = []
all_steps_in w (b ∷ rest) = steps_in w b ∷ all_steps_in w rest
