use Rattle.std.proofs.Common.{◌≡◌, ◌++◌, drop}
use Rattle.gq_model.specs.machine.Scenario.{components}
use Rattle.gq_outcomes.specs.internal.Racy.{with_users}
use Rattle.gq_outcomes.proofs.racy.with_users.Given as goal

-- the marks so far, with those of the leaves that are left, are all
abbrev pub invariant-loop-number : goal.invariant-loop-number
invariant-loop-number l =
    l.all.items ++ with_users (components l.table) l.marked l.found l.number (drop l.number (components l.table))
    ≡ with_users (components l.table) l.marked l.found 0 (components l.table)
