use Rattle.std.proofs.Common.{◌≡◌, ◌-◌}
use Rattle.gq_model.specs.machine.Scenario.{system}
use Rattle.gq_library.specs.C_turns.{first_able}
use Rattle.gq_library.proofs.tour.first_able.Given as goal

-- none of the leaves so far can
abbrev pub invariant-loop-number : goal.invariant-loop-number
invariant-loop-number l =
    first_able (system l.fn.world.scenario) l.fn.world.world l.first (l.end - l.first)
    ≡ first_able (system l.fn.world.scenario) l.fn.world.world l.number (l.end - l.number)
