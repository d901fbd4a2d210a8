use Rattle.std.proofs.Common.{◌≤◌, length}
use Rattle.gq_model.specs.machine.Scenario.{components, system}
use Rattle.gq_traces.proofs.Random_turn_schedule.{FoundSoFar}
use Rattle.gq_traces.proofs.chance.able.Given as goal

-- those of the leaves so far that can
abbrev pub invariant-loop-number : goal.invariant-loop-number
invariant-loop-number l = record {
  found : FoundSoFar (system l.fn.world.scenario) (components l.fn.world.scenario) l.number l.fn.world.world l.leaves.items;
  few : length l.leaves.items ≤ l.number;
}
