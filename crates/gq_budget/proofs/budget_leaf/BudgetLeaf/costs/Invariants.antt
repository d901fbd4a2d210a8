use Rattle.std.proofs.Common.{◌≡◌, ◌++◌, drop}
use Rattle.gq_budget.specs.internal.Counted.{costs_of}
use Rattle.gq_budget.proofs.budget_leaf.BudgetLeaf.costs.Given as goal

-- the costs so far, with those of the sections that are left, are those of all
abbrev pub invariant-loop-section : goal.invariant-loop-section
invariant-loop-section l = l.costs.items ++ costs_of (drop l.section-index l.section-items) ≡ costs_of l.section-items
