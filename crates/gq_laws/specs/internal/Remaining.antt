-- The states and the requests that are left to a section with these statements left in these loops.
use Rattle.std.specs.Prelude.{◌-◌, ◌*◌, ◌+◌, ℕ, suc, List, [], ◌∷◌, ◌++◌}
use Rattle.gq_model.specs.declared.section.Section.{Section}
use Rattle.gq_model.specs.machine.Program.{Statements}
use Rattle.gq_model.specs.machine.World.{Round}
use Rattle.gq_model.specs.rules.Kinds.{AbstractState, Context}
use Rattle.gq_model.specs.rules.Flow.{flow, state_or, points}
use Rattle.gq_model.specs.rules.Budgets.{requests}
use Rattle.gq_laws.specs.Current_section_facts.{within}

-- the states before what comes after the rounds around, where the innermost block ends at this state
abbrev pub round_points : Context → AbstractState → List Round → List AbstractState
round_points c u [] = []
round_points c u (r ∷ loops) =
    points (within c (r ∷ loops)) u r.body ++ points (within c loops) u r.rest ++ round_points c (state_or u (flow (within c loops) u r.rest)) loops

-- the states before the statements that are left
abbrev pub left_points : Context → AbstractState → Statements → List Round → List AbstractState
left_points c s todo loops = points (within c loops) s todo ++ round_points c (state_or s (flow (within c loops) s todo)) loops

-- requests for a section of a service in the rounds around that are left
abbrev pub round_requests : List ℕ → Section → Context → AbstractState → List Round → ℕ
round_requests service section c u [] = 0
round_requests service section c u (r ∷ loops) =
    (r.count - suc r.round) * requests service section (within c (r ∷ loops)) u r.body + requests service section (within c loops) u r.rest
    + round_requests service section c (state_or u (flow (within c loops) u r.rest)) loops

-- requests for a section of a service that are left
abbrev pub left_requests : List ℕ → Section → Context → AbstractState → Statements → List Round → ℕ
left_requests service section c s todo loops =
    requests service section (within c loops) s todo + round_requests service section c (state_or s (flow (within c loops) s todo)) loops
