use Rattle.std.proofs.Common.{◌≡◌, ◌++◌, drop, map}
use Rattle.gq_model.specs.machine.Scenario.{System}
use Rattle.gq_model.specs.rules.Use.{subject}
use Rattle.gq_sizes.specs.Point_maxima.{given_in}
use Rattle.gq_sizes.specs.Saturated_tables.{round_rows}
use Rattle.gq_sizes.proofs.needs.round_caps.Given as goal

-- the rows so far, with those of the interfaces that are left, are all
abbrev pub invariant-loop-service : goal.invariant-loop-service
invariant-loop-service l =
    (all : System) → l.components ≡ all.components → l.leaves ≡ map (subject all) all.components →
    l.needs.items ++ round_rows all (given_in l.given.interfaces.now l.given.sums.now) (drop l.service-index l.service-items)
    ≡ round_rows all (given_in l.given.interfaces.now l.given.sums.now) l.service-items
