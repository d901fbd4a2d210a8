use Rattle.std.proofs.Common.{◌≡◌, ◌++◌, drop, map}
use Rattle.gq_model.specs.machine.Scenario.{System}
use Rattle.gq_model.specs.rules.Use.{subject}
use Rattle.gq_sizes.specs.Saturated_tables.{needed_rows}
use Rattle.gq_sizes.proofs.needs.free_ram.Given as goal

-- the rows so far, with those of the interfaces that are left, are all
abbrev pub invariant-loop-service : goal.invariant-loop-service
invariant-loop-service l =
    (all : System) → l.components ≡ all.components → l.leaves ≡ map (subject all) all.components →
    l.needs.items ++ needed_rows all (drop l.service-index l.service-items) ≡ needed_rows all l.service-items
