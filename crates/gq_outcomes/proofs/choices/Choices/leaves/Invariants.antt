use Rattle.std.proofs.Common.{◌≡◌, ◌≤◌, ◌++◌, drop, length}
use Rattle.gq_model.specs.machine.Scenario.{components, system}
use Rattle.gq_outcomes.specs.Choices.{choices, choices_from, racy_servers}
use Rattle.gq_outcomes.proofs.choices.Choices.leaves.Given as goal

-- those so far, with those of the leaves that are left, are all
abbrev pub invariant-loop-number : goal.invariant-loop-number
invariant-loop-number l = record {
  few : length l.leaves.items ≤ l.number;
  are : l.leaves.items ++ choices_from (system l.machine.scenario) (racy_servers (system l.machine.scenario)) l.machine.world l.number
      (drop l.number (components l.machine.scenario))
      ≡ choices (system l.machine.scenario) (racy_servers (system l.machine.scenario)) l.machine.world;
}
