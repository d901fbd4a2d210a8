use Rattle.std.proofs.Common.{◌≡◌, ◌+◌, ◌-◌, ◌<◌, ◌≤◌, [], length}
use Rattle.gq_machine.specs.Events.{event_of}
use Rattle.gq_model.specs.machine.Scenario.{components, system}
use Rattle.gq_library.specs.C_turns.{burst, tour, tour_from}
use Rattle.gq_library.specs.internal.Turns_left.{IsSilent}
use Rattle.gq_library.proofs.tour.tour.Given as goal

-- the turns so far showed no line and no end, and those that are left go on from here
abbrev pub invariant-loop-tried : goal.invariant-loop-tried
invariant-loop-tried l = record {
  scenario : l.world.scenario ≡ l.fn.world.scenario;
  stopped : l.world.stopped ≡ l.fn.world.stopped;
  within : l.at ≤ length (components l.fn.world.scenario);
  few : l._tried + l.left ≤ l.most;
  some : 0 < l.most → 0 < l.left;
  silent : IsSilent l.event;
  turns : tour_from (system l.fn.world.scenario) l.most l.leaf l.fn.world.world
      ≡ tour (l.most - l._tried) (system l.fn.world.scenario) l.most l.at
      (record { leaf = l.last; burst = burst (l.most - l.left) (event_of l.event []) l.world.world });
}
