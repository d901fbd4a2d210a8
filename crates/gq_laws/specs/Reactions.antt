-- How many steps leaves take from a world on in which every leaf is at rest.
use Rattle.std.specs.Prelude.{◌≡◌, ◌≤◌, ◌+◌, ℕ, false, List, Some, slice_get, length, sum}
use Rattle.gq_model.specs.machine.Lists.{any_of}
use Rattle.gq_model.specs.machine.Scenario.{Scenario, Component, components, system}
use Rattle.gq_model.specs.machine.World.{Leaf, World}
use Rattle.gq_model.specs.machine.Run.{submit}
use Rattle.gq_model.specs.machine.Step_budgets.{reaction_steps}
use Rattle.gq_model.specs.rules.Accept.{budgets, steps_of_signal}
use Rattle.gq_model.specs.Promises.{budget_of}
use Rattle.gq_laws.specs.Shapes.{Each}
use Rattle.gq_laws.specs.Progress.{AllRest, Move, after_moves, taken, is_signal_move, IsRound, NoSignals, after_rounds}

-- from a world at rest on, over any turns, settings and signals, each leaf takes at most as many steps as the signals that are taken on the way have for it
abbrev pub ReactsWithin : Scenario → World → Type 0
ReactsWithin s v =
    AllRest v → (moves : List Move) (x : ℕ) (c : Component) (old leaf : Leaf) → slice_get (components s) x ≡ Some c → slice_get v.leaves x ≡ Some old
    → slice_get (after_moves (system s) v moves).leaves x ≡ Some leaf
    → leaf.steps + reaction_steps v.leaves (budget_of s x c).steps.for_signals
    ≤ old.steps + reaction_steps (after_moves (system s) v moves).leaves (budget_of s x c).steps.for_signals

-- the steps of all leaves for the i-th signal of the y-th leaf
abbrev pub reaction : Scenario → ℕ → ℕ → ℕ
reaction s y i = sum (steps_of_signal y i (budgets s))

-- one signal that is submitted in a world at rest takes at most so many steps of all leaves together, over any turns and settings
abbrev pub OneReacts : Scenario → World → Type 0
OneReacts s v =
    AllRest v → (y i : ℕ) (moves : List Move) → any_of is_signal_move moves ≡ false
    → taken (after_moves (system s) (submit v y i) moves) ≤ taken v + reaction s y i

-- and after as many rounds every leaf is at rest again
abbrev pub ReactionEnds : Scenario → World → Type 0
ReactionEnds s v =
    AllRest v → (y i : ℕ) (rounds : List (List Move)) → Each (IsRound (system s)) rounds → NoSignals rounds → reaction s y i ≤ length rounds
    → AllRest (after_rounds (system s) (submit v y i) rounds)
