-- What is shown of a list, statement by statement.
use Rattle.std.specs.Prelude.{ℕ, ◌+◌, List, [], ◌∷◌, ◌++◌}
use Rattle.gq_model.specs.machine.Program.{size}
use Rattle.gq_model.specs.rules.Kinds.{AbstractState, Context, inside}
use Rattle.gq_program.specs.declared.program_tree.Statement.{Statement}
use Rattle.gq_program.specs.declared.program_tree.Statement.TheVariants.{Plain, If, Loop}
use Rattle.gq_verify.specs.Visits.{Sight, At_statement, sights, slots_of}

-- the statements in a statement
abbrev pub size_in : Statement → ℕ
size_in (Plain i) = 0
size_in (If arm other) = size arm + size other
size_in (Loop count body) = size body

-- what is shown of a statement of number k and those in it, but for the point after it
abbrev pub sights_in : Context → ℕ → AbstractState → Statement → List Sight
sights_in c k s (Plain i) = At_statement c (slots_of s) i ∷ []
sights_in c k s (If arm other) = sights c k (slots_of s) arm ++ sights c (k + size arm) (slots_of s) other
sights_in c k s (Loop count body) = sights (inside c count) k s body
