use Rattle.std.proofs.Common.{◌≡◌, ◌++◌, drop, map}
use Rattle.gq_model.specs.machine.Scenario.{components}
use Rattle.gq_views.specs.internal.Opened_services.{opened_by_all}
use Rattle.gq_views.proofs.drawn.all_opened.Given as goal

-- the leaves so far, with those that are left, are all
abbrev pub invariant-loop-number : goal.invariant-loop-number
invariant-loop-number l =
    map (λ v. v.items) l.all.items ++ opened_by_all (components l.table) (drop l.number (components l.table))
    ≡ opened_by_all (components l.table) (components l.table)
