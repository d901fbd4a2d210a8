use Rattle.std.proofs.Common.{◌≡◌, ◌++◌, drop, map}
use Rattle.gq_budget.proofs.budget_leaf.BudgetLeaf.section_names.Given as goal

-- the sections so far, with those that are left, are all
abbrev pub invariant-loop-section : goal.invariant-loop-section
invariant-loop-section l = l.names.items ++ map (λ p. p.0) (drop l.section-index l.section-items) ≡ map (λ p. p.0) l.section-items
