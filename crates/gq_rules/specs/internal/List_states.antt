-- The states before the statements of a list, statement by statement.
use Rattle.std.specs.Prelude.{List, [], ◌∷◌, ◌++◌}
use Rattle.gq_model.specs.rules.Kinds.{AbstractState, Context, inside}
use Rattle.gq_model.specs.rules.Rules.{judged}
use Rattle.gq_model.specs.rules.Flow.{at, flow, state_or, points}
use Rattle.gq_program.specs.declared.program_tree.Statement.{Statement}
use Rattle.gq_program.specs.declared.program_tree.Statement.TheVariants.{Plain, If, Loop}

-- both arms of an `if` start without operands
abbrev pub chosen : AbstractState → AbstractState
chosen s = record s { bounds = [] }

-- the state before the next statement of a list
abbrev pub next_state : Context → AbstractState → Statement → AbstractState
next_state c s (Plain i) = state_or s (at 1 (judged c s i))
next_state c s (If arm other) = state_or (chosen s) (flow c (chosen s) arm)
next_state c s (Loop count body) = s

-- the states before a statement and those in it
abbrev pub points_in : Context → AbstractState → Statement → List AbstractState
points_in c s (Plain i) = s ∷ []
points_in c s (If arm other) = s ∷ points c (chosen s) arm ++ points c (chosen s) other
points_in c s (Loop count body) = s ∷ points (inside c count) s body
