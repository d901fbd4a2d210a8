-- Leaves, as their steps are counted by.
use Rattle.std.specs.Prelude.{List, [], ◌∷◌}
use Rattle.gq_model.specs.machine.Scenario.{Interfaces, Component}
use Rattle.gq_budget.specs.Leaf_routes.{BudgetLeaf}
use Rattle.gq_load.specs.internal.Judged_programs.{judged_by}

-- leaves as their steps are counted by
abbrev pub counted_leaves : Interfaces → List Component → List BudgetLeaf
counted_leaves interfaces [] = []
counted_leaves interfaces (c ∷ rest) = record { subject = judged_by interfaces c; provides = c.node.provides } ∷ counted_leaves interfaces rest
