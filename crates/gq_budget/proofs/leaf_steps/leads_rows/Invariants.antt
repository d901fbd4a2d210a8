use Rattle.std.proofs.Common.{◌≡◌, ◌++◌, drop, map}
use Rattle.gq_budget.specs.internal.Route_leads.{leads_rows}
use Rattle.gq_budget.proofs.leaf_steps.leads_rows.Given as goal

-- the rows so far, with those that are left, are all
abbrev pub invariant-loop-place : goal.invariant-loop-place
invariant-loop-place l =
    map (λ row. row.items) l.rows.items ++ leads_rows l.components l.counted l.place (drop l.place l.components)
    ≡ leads_rows l.components l.counted 0 l.components
