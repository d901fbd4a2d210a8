use Rattle.std.proofs.Common.{◌≡◌, drop}
use Rattle.gq_model.specs.machine.Scenario.{components, system}
use Rattle.gq_outcomes.specs.Choices.{racy_servers, some_settle}
use Rattle.gq_outcomes.proofs.choices.Choices.some_settle.Given as goal

-- some leaf settles just if one of those that are left does
abbrev pub invariant-loop-number : goal.invariant-loop-number
invariant-loop-number l =
    some_settle (system l.machine.scenario) (racy_servers (system l.machine.scenario)) l.machine.world l.number (drop l.number (components l.machine.scenario))
    ≡ some_settle (system l.machine.scenario) (racy_servers (system l.machine.scenario)) l.machine.world 0 (components l.machine.scenario)
