use Rattle.std.proofs.Common.{◌≡◌, ◌-◌, ◌≤◌, false}
use Rattle.gq_model.specs.machine.Scenario.{system}
use Rattle.gq_traces.specs.internal.Alone_positions.{StepsAlone}
use Rattle.gq_traces.proofs.alone_steps.steps_alone.Given as goal

-- the steps so far were taken alone
abbrev pub invariant-loop-done : goal.invariant-loop-done
invariant-loop-done l = record {
  few : l.done ≤ l.most;
  scenario : l.world.scenario ≡ l.fn.world.scenario;
  running : l.world.stopped ≡ false;
  signals : l.world.signals ≡ l.fn.world.signals;
  steps : StepsAlone (system l.fn.world.scenario) l.programs l.leaf l.done l.fn.world.world l.world.world l.fn.aheads l.aheads;
}

abbrev pub decreases-loop-done : goal.decreases-loop-done
decreases-loop-done l = l.most - l.done
