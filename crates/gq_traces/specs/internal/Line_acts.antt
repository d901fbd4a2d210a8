-- What the lines of a list of turns give to a trace on the way.
use Rattle.std.specs.Prelude.{List, [], ◌∷◌, ◌++◌, ℕ, Bool}
use Rattle.gq_model.specs.declared.act.TurnLine.{TurnLine}
use Rattle.gq_model.specs.declared.act.TurnLine.TheVariants.{Gives, Rests}
use Rattle.gq_model.specs.machine.Rest.{as_acts, to_rest}
use Rattle.gq_model.specs.machine.Run.{Acts}
use Rattle.gq_model.specs.machine.Scenario.{Scenario, System, system}
use Rattle.gq_model.specs.machine.Step_budgets.{StepBudget}
use Rattle.gq_model.specs.machine.World.{World}
use Rattle.gq_traces.specs.Trace.{Traced, after_all, all_text}

-- what a line gives in a world
abbrev pub acts_at : System → World → TurnLine → Acts
acts_at system w (Gives x act) = (x, act) ∷ []
acts_at system w Rests = as_acts (to_rest system w).turns

-- a trace after a line, and after lines
abbrev pub after_line : System → TurnLine → Traced → Traced
after_line system line t = after_all system (acts_at system t.world line) t

abbrev pub after_lines : System → List TurnLine → Traced → Traced
after_lines system [] t = t
after_lines system (line ∷ rest) t = after_lines system rest (after_line system line t)

-- and what is printed of them
abbrev pub line_text : Bool → Scenario → List StepBudget → TurnLine → Traced → List ℕ
line_text all s budgets line t = all_text all s budgets (acts_at (system s) t.world line) t

abbrev pub lines_text : Bool → Scenario → List StepBudget → List TurnLine → Traced → List ℕ
lines_text all s budgets [] t = []
lines_text all s budgets (line ∷ rest) t = line_text all s budgets line t ++ lines_text all s budgets rest (after_line (system s) line t)

-- what lines give from there on
abbrev pub acts_along : System → List TurnLine → Traced → Acts
acts_along system [] t = []
acts_along system (line ∷ rest) t = acts_at system t.world line ++ acts_along system rest (after_line system line t)
