use Rattle.std.proofs.Common.{◌≡◌, ◌++◌, drop, map}
use Rattle.gq_model.specs.machine.Scenario.{System}
use Rattle.gq_model.specs.rules.Use.{subject}
use Rattle.gq_sizes.specs.Passing.{held_rows, passing}
use Rattle.gq_sizes.proofs.endless.next_tests.Given as goal

-- the rows so far, with those of the interfaces that are left, are all
abbrev pub invariant-loop-service : goal.invariant-loop-service
invariant-loop-service l =
    (all : System) → l.components ≡ all.components → l.leaves ≡ map (subject all) all.components →
    l.tests.items ++ held_rows all (passing l.sessions.interfaces.now l.sessions.tests.now) (drop l.service-index l.service-items)
    ≡ held_rows all (passing l.sessions.interfaces.now l.sessions.tests.now) l.service-items
