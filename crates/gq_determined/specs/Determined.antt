-- What is the same in all runs of a scenario, whatever the turns, the inputs and the signals.
use Rattle.std.specs.Prelude.{◌≡◌, ◌⊎◌, ℕ, ◌==◌, List, ◌++◌, Some, None, slice_get}
use Rattle.gq_model.specs.machine.Scenario.{Scenario, Component, components, system}
use Rattle.gq_model.specs.machine.Run.{Acts, run}
use Rattle.gq_model.specs.machine.Accounts.{accounts}
use Rattle.gq_laws.specs.Progress.{AllRest}
use Rattle.gq_laws.specs.Group_alone.{own_lines}

-- the lines of one leaf in a run
abbrev pub lines_of : Scenario → ℕ → Acts → List ℕ
lines_of s x acts = own_lines (system s) (λ y. y == x) acts

-- the second goes on from the first
abbrev pub IsPrefix : List ℕ → List ℕ → Type 0
IsPrefix text more = (rest : List ℕ) × (more ≡ text ++ rest)

-- the x-th leaf provides no service
abbrev pub ProvidesNothing : Scenario → ℕ → Type 0
ProvidesNothing s x = (c : Component) × (slice_get (components s) x ≡ Some c) × (c.node.provides ≡ None)

-- the x-th leaf is there
abbrev pub IsLeaf : Scenario → ℕ → Type 0
IsLeaf s x = (c : Component) × (slice_get (components s) x ≡ Some c)

-- after these turns, settings and signals all work is at rest
abbrev pub ComesToRest : Scenario → Acts → Type 0
ComesToRest s acts = AllRest (run (system s) acts).world

-- these leaves write the same
pub record WritesSame (s : Scenario) (Of : ℕ → Type 0) : Type 0 where
  -- in all runs to rest the same lines, in the same order
  pub lines : (acts others : Acts) → ComesToRest s acts → ComesToRest s others → (x : ℕ) → Of x → lines_of s x acts ≡ lines_of s x others
  -- of any two runs, at rest or not, what it wrote in one is a prefix of what it wrote in the other, or the other way round
  pub prefixes : (acts others : Acts) (x : ℕ) → Of x
      → IsPrefix (lines_of s x acts) (lines_of s x others) ⊎ IsPrefix (lines_of s x others) (lines_of s x acts)

-- all runs to rest end with the same accounts of all nodes, by any budgets
abbrev pub LeavesSame : Scenario → Type 0
LeavesSame s = (acts others : Acts) → ComesToRest s acts → ComesToRest s others → (budgets : List ℕ)
    → accounts s (run (system s) acts).world budgets ≡ accounts s (run (system s) others).world budgets
