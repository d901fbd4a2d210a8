-- How a section goes on by the rules: from a state with what is left of the section to the next.
use Rattle.std.specs.Prelude.{◌≡◌, ◌<◌, ◌⊎◌, ℕ, suc, List, ◌∷◌, Ok}
use Rattle.gq_model.specs.declared.program.Instruction.{Instruction}
use Rattle.gq_model.specs.machine.Program.{Statements, Done, Do, If, Loop, ◌then◌}
use Rattle.gq_model.specs.machine.World.{Round}
use Rattle.gq_model.specs.rules.Kinds.{AbstractState, Context}
use Rattle.gq_model.specs.rules.Rules.{judged}
use Rattle.gq_model.specs.rules.Flow.{chosen_from}
use Rattle.gq_laws.specs.Current_section_facts.{within}

-- one step of a section: with these statements left in these loops at the first state, to those at the second
pub data Moves (c : Context) (s : AbstractState) (todo : Statements) (loops : List Round) (t : AbstractState) (left : Statements) (around : List Round) : Type
    0 where
  Does : (i : Instruction) (rest : Statements) (is : todo ≡ Do i rest) (judges : judged (within c loops) s i ≡ Ok t) (goes_on : left ≡ rest)
      (same : around ≡ loops) → Moves c s todo loops t left around
  Chooses : (arm other rest : Statements) (is : todo ≡ If arm other rest) (from : chosen_from s ≡ Ok t) (goes_on : (left ≡ (arm then rest))
      ⊎ (left ≡ (other then rest))) (same : around ≡ loops) → Moves c s todo loops t left around
  Enters : (n : ℕ) (body rest : Statements) (is : todo ≡ Loop n body rest) (stays : t ≡ s) (goes_on : left ≡ body)
      (more : around ≡ record { round = 0; count = n; body = body; rest = rest } ∷ loops) → Moves c s todo loops t left around
  Repeats : (r : Round) (outer : List Round) (is : todo ≡ Done) (inside : loops ≡ r ∷ outer) (stays : t ≡ s) (again : suc r.round < r.count)
      (goes_on : left ≡ r.body) (more : around ≡ record r { round = suc r.round } ∷ outer) → Moves c s todo loops t left around
  Leaves : (r : Round) (outer : List Round) (is : todo ≡ Done) (inside : loops ≡ r ∷ outer) (stays : t ≡ s) (goes_on : left ≡ r.rest) (out : around ≡ outer)
      → Moves c s todo loops t left around
