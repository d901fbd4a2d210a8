-- How often sections run, kept as far as it goes.
use Rattle.std.specs.Prelude.{ℕ, suc, List, [], ◌∷◌, length, get_or}
use Rattle.gq_model.specs.machine.Program.{Statements}
use Rattle.gq_model.specs.declared.section.Section.{Section}
use Rattle.gq_model.specs.machine.Scenario.{System, Component}
use Rattle.gq_model.specs.rules.Use.{Cause, times}
use Rattle.gq_verify.specs.Saturated_numbers.{saturated}

-- how often these sections run
abbrev pub row_of : (Section → ℕ) → List (Section × Statements) → List ℕ
row_of f [] = []
row_of f (p ∷ rest) = saturated (f p.0) ∷ row_of f rest

-- how often those of the leaves from the x-th on run
abbrev pub table_of : (ℕ → Section → ℕ) → ℕ → List Component → List (List ℕ)
table_of f x [] = []
table_of f x (c ∷ rest) = row_of (f x) c.node.program.sections ∷ table_of f (suc x) rest

-- how often each section of each leaf of a system runs for one cause
abbrev pub times_table : Cause → System → List (List ℕ)
times_table cause system = table_of (times (length system.components) cause system) 0 system.components

-- how often the k-th section of the x-th leaf runs
abbrev pub time_at : List (List ℕ) → ℕ → ℕ → ℕ
time_at table x k = get_or (get_or table x []) k 0
