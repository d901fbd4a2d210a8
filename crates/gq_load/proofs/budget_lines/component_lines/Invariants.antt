use Rattle.std.proofs.Common.{◌≡◌, ◌++◌, drop}
use Rattle.gq_model.specs.rules.Accept.{budget_lines_of}
use Rattle.gq_scenario.specs.Component_trees.{version_number}
use Rattle.gq_load.proofs.budget_lines.component_lines.Given as goal

-- the lines so far, with those that are left, are all
abbrev pub invariant-loop-place : goal.invariant-loop-place
invariant-loop-place l =
    l.text.items ++ budget_lines_of (version_number l.version) (drop l.place l.components) (drop l.place l.budgets)
    ≡ budget_lines_of (version_number l.version) l.components l.budgets
