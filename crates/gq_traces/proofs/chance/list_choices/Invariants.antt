use Rattle.std.proofs.Common.{◌≡◌, ◌≤◌, false, Some}
use Rattle.gq_model.specs.machine.Scenario.{system}
use Rattle.gq_traces.specs.Schedule.{rest_by}
use Rattle.gq_traces.proofs.Random_turn_schedule.{GoesChoices}
use Rattle.gq_traces.proofs.chance.list_choices.Given as goal

-- further choices are to come
abbrev pub invariant-loop-left : goal.invariant-loop-left
invariant-loop-left l = record {
  scenario : l.world.scenario ≡ l.fn.world.scenario;
  running : l.world.stopped ≡ false;
  signals : l.world.signals ≡ l.fn.world.signals;
  few : l.left ≤ l.most;
  goes : GoesChoices (rest_by (Some l.seed) (system l.fn.world.scenario) l.most l.fn.world.world) (system l.fn.world.scenario) l.lines l.left l.world.world
      l.generator l.fn.list.items l.list.items;
}

abbrev pub decreases-loop-left : goal.decreases-loop-left
decreases-loop-left l = l.lines
