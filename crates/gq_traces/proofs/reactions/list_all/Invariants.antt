use Rattle.std.proofs.Common.{◌≡◌, ◌≤◌, ◌-◌, length, false}
use Rattle.gq_model.specs.machine.Rest.{greatest_turns}
use Rattle.gq_model.specs.machine.Scenario.{system}
use Rattle.gq_traces.specs.Schedule.{all_listed, reactions, times_in}
use Rattle.gq_traces.proofs.reactions.list_all.Given as goal

-- the times that are left lead where all of them lead
abbrev pub invariant-loop-time : goal.invariant-loop-time
invariant-loop-time l = record {
  scenario : l.world.scenario ≡ l.fn.world.scenario;
  running : l.world.stopped ≡ false;
  signals : l.world.signals ≤ length l.list.items;
  few : l.left ≤ greatest_turns;
  goes : reactions (times_in l.fn.world.scenario.version l.fn.times - l._time) l.seed (system l.fn.world.scenario)
      (record { lines = l.list.items; left = l.left; world = l.world.world }) ≡ all_listed l.fn.seed l.fn.times l.fn.world.scenario;
}
