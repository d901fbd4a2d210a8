use Rattle.std.proofs.Common.{◌≡◌, ◌++◌, drop, Some}
use Rattle.gq_budget.specs.internal.Route_leads.{leads_row}
use Rattle.gq_budget.proofs.leaf_steps.leads_row.Given as goal

-- the row so far, with what is left of it, is all
abbrev pub invariant-loop-place : goal.invariant-loop-place
invariant-loop-place l =
    l.row.items ++ leads_row l.components l.leaf (Some l.provided) (drop l.place l.components) (drop l.place l.counted)
    ≡ leads_row l.components l.leaf (Some l.provided) l.components l.counted
