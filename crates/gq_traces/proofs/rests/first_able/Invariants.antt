use Rattle.std.proofs.Common.{◌≡◌}
use Rattle.gq_model.specs.machine.Scenario.{components, system}
use Rattle.gq_traces.specs.internal.Next_able.{first_able}
use Rattle.gq_traces.proofs.rests.first_able.Given as goal

-- none of those so far can
abbrev pub invariant-loop-number : goal.invariant-loop-number
invariant-loop-number l =
    first_able (system l.fn.world.scenario) l.fn.world.world l.fn.from (components l.fn.world.scenario)
    ≡ first_able (system l.fn.world.scenario) l.fn.world.world l.number (components l.fn.world.scenario)
