-- What a world of the code keeps.
use Rattle.std.specs.Prelude.{◌≡◌, ◌≤◌, ◌+◌, ℕ, Bool, false, if◌then◌else◌, List, [], ◌∷◌}
use Rattle.gq_model.specs.machine.Scenario.{Scenario}
use Rattle.gq_model.specs.machine.World.{Signal, World}
use Rattle.gq_model.specs.rules.Accept.{Budget, budgets}
use Rattle.gq_laws.specs.Stands.{Stands}
use Rattle.gq_laws.specs.Turn_effects.{signals_of}
use Rattle.gq_world.specs.World_between_turns.{greatest_lines}

-- the world is one of those from which all that is promised follows, whose truth is all that is kept, and these are the budgets of the leaves
pub record IsBudgeted (s : Scenario) (w : World) (all : List Budget) : Type 0 where
  pub stands : ∥ Stands s w ∥₁
  pub budgets_are : all ≡ budgets s

-- how often signals were submitted, at least: those taken, and those not taken yet
abbrev pub submitted_in : List Signal → ℕ
submitted_in [] = 0
submitted_in (s ∷ rest) = (s.taken + (if s.submitted then 1 else 0)) + submitted_in rest

abbrev pub all_submitted : List (List Signal) → ℕ
all_submitted [] = 0
all_submitted (signals ∷ rest) = submitted_in signals + all_submitted rest

-- no more signals were submitted than counted, which are no more than a list of turns has lines
pub record AreCounted (w : World) (signals : ℕ) : Type 0 where
  pub few : signals ≤ greatest_lines
  pub submitted : all_submitted (signals_of w) ≤ signals

-- a world that is not stopped has counted its signals
abbrev pub IsCounted : World → Bool → ℕ → Type 0
IsCounted w stopped signals = stopped ≡ false → AreCounted w signals

pub record IsKept (s : Scenario) (w : World) (all : List Budget) (stopped : Bool) (signals : ℕ) : Type 0 where
  pub budgeted : IsBudgeted s w all
  pub counted : IsCounted w stopped signals
