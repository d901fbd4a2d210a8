use Rattle.std.proofs.Common.{◌≡◌, ◌≤◌, false, None}
use Rattle.gq_model.specs.machine.Scenario.{system}
use Rattle.gq_traces.specs.Schedule.{rest_by}
use Rattle.gq_traces.proofs.Round_schedule_text.{GoesRounds}
use Rattle.gq_traces.proofs.schedule.list_rounds.Given as goal

-- further rounds are to come
abbrev pub invariant-loop-rest : goal.invariant-loop-rest
invariant-loop-rest l = record {
  scenario : l.world.scenario ≡ l.fn.world.scenario;
  running : l.world.stopped ≡ false;
  signals : l.world.signals ≡ l.fn.world.signals;
  few : l.left ≤ l.most;
  goes : GoesRounds (rest_by None (system l.fn.world.scenario) l.most l.fn.world.world) (system l.fn.world.scenario) l.left l.world.world l.fn.list.items
      l.list.items;
}

abbrev pub decreases-loop-rest : goal.decreases-loop-rest
decreases-loop-rest l = l.left
