-- Reactions that do not depend on the turns: what follows a world in which every leaf is at rest, once inputs are set and signals submitted there.
use Rattle.std.specs.Prelude.{◌≡◌, ℕ, ◌==◌, Bool, true, false, List, [], None}
use Rattle.gq_model.specs.declared.act.Act.{Act}
use Rattle.gq_model.specs.declared.act.Act.TheVariants.{Turns, Sets, Submits}
use Rattle.gq_model.specs.machine.Accounts.{accounts}
use Rattle.gq_model.specs.machine.Lists.{all_of, any_of}
use Rattle.gq_model.specs.machine.Run.{Ran, Acts, run_on}
use Rattle.gq_model.specs.machine.Scenario.{Scenario, system}
use Rattle.gq_model.specs.machine.Step_budgets.{StepBudget, all_steps_in}
use Rattle.gq_model.specs.machine.World.{World}
use Rattle.gq_laws.specs.Group_alone.{lines_from}
use Rattle.gq_laws.specs.Progress.{AllRest}

abbrev pub are_turns : Act → Bool
are_turns (Turns n) = true
are_turns (Sets i n) = false
are_turns (Submits i) = false

-- settings of inputs and submitted signals, and no turns
abbrev pub SetsAndSubmits : Acts → Type 0
SetsAndSubmits acts = any_of (λ t. are_turns t.1) acts ≡ false

-- turns alone
abbrev pub AreTurns : Acts → Type 0
AreTurns acts = all_of (λ t. are_turns t.1) acts ≡ true

-- a run that goes on from a world: no line is written yet, and no step was wrong
abbrev pub going_on : World → Ran
going_on w = record { world = w; text = []; wrong = None }

-- the world that it comes to
abbrev pub world_after : Scenario → World → Acts → World
world_after s w acts = (run_on (system s) acts (going_on w)).world

-- the lines of one leaf in it
abbrev pub lines_after : Scenario → World → ℕ → Acts → List ℕ
lines_after s w x acts = lines_from (system s) (λ y. y == x) acts (going_on w)

-- from this world on, turns alone bring every leaf to rest
abbrev pub BringsToRest : Scenario → World → Acts → Type 0
BringsToRest s v turns = AreTurns turns × AllRest (world_after s v turns)

-- if every leaf is at rest in a world: whatever is set and submitted there, all turns that bring every leaf to rest again end with the same accounts of all
-- nodes, each by its budget of steps in that world
abbrev pub ReactsToSame : Scenario → World → Type 0
ReactsToSame s w =
    AllRest w → (given turns others : Acts) → SetsAndSubmits given → BringsToRest s (world_after s w given) turns
    → BringsToRest s (world_after s w given) others → (budgets : List StepBudget)
    → accounts s (world_after s (world_after s w given) turns) (all_steps_in (world_after s (world_after s w given) turns) budgets)
    ≡ accounts s (world_after s (world_after s w given) others) (all_steps_in (world_after s (world_after s w given) others) budgets)

-- and with all of them each of these leaves writes the same lines, in the same order
abbrev pub ReactsWithSame : Scenario → (ℕ → Type 0) → World → Type 0
ReactsWithSame s Of w =
    AllRest w → (given turns others : Acts) → SetsAndSubmits given → BringsToRest s (world_after s w given) turns
    → BringsToRest s (world_after s w given) others → (x : ℕ) → Of x
    → lines_after s (world_after s w given) x turns ≡ lines_after s (world_after s w given) x others
