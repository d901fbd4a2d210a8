use Rattle.std.proofs.Common.{◌≡◌, ◌++◌, drop, map}
use Rattle.gq_model.specs.machine.Scenario.{components}
use Rattle.gq_races.specs.internal.Openers.{opened_from}
use Rattle.gq_races.proofs.openers.all_opened.Given as goal

-- the leaves so far, with those that are left, are all
abbrev pub invariant-loop-number : goal.invariant-loop-number
invariant-loop-number l =
    l.all.items ++ map (opened_from (components l.table)) (drop l.number (components l.table))
    ≡ map (opened_from (components l.table)) (components l.table)
