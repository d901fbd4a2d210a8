use Rattle.std.proofs.Common.{◌≡◌, false}
use Rattle.gq_model.specs.machine.Scenario.{components, system}
use Rattle.gq_traces.proofs.Round_schedule_text.{GoesRound}
use Rattle.gq_traces.proofs.schedule.list_round.Given as goal

-- the round goes on before the leaf of this number
abbrev pub invariant-loop-number : goal.invariant-loop-number
invariant-loop-number l = record {
  scenario : l.world.scenario ≡ l.fn.world.scenario;
  running : l.world.stopped ≡ false;
  signals : l.world.signals ≡ l.fn.world.signals;
  goes : GoesRound (system l.fn.world.scenario) (components l.fn.world.scenario) l.fn.most l.number l.left l.fn.world.world l.world.world l.fn.list.items
      l.list.items;
}
