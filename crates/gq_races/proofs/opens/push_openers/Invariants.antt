use Rattle.std.proofs.Common.{◌≡◌, ◌++◌, drop, map}
use Rattle.gq_model.specs.machine.Scenario.{components}
use Rattle.gq_races.specs.Race_text.{opened_text}
use Rattle.gq_races.specs.internal.Openers.{opened_among}
use Rattle.gq_views.specs.Listing.{joined}
use Rattle.gq_races.proofs.opens.push_openers.Given as goal

-- the lines so far, with those of the leaves that are left, are all
abbrev pub invariant-loop-number : goal.invariant-loop-number
invariant-loop-number l =
    l.text.items ++ joined (map opened_text (opened_among (components l.table) l.leaf (drop l.number (components l.table))))
    ≡ l.fn.text.items ++ joined (map opened_text (opened_among (components l.table) l.leaf (components l.table)))
