use Rattle.std.proofs.Common.{◌≡◌, ◌≤◌, ◌+◌, ◌*◌, length, false}
use Rattle.gq_model.specs.machine.Scenario.{components}
use Rattle.gq_traces.proofs.Listed_signals.{GoesLeaves}
use Rattle.gq_traces.proofs.reactions.list_signals.Given as goal

-- the signals of the leaves before this one are submitted and listed
abbrev pub invariant-loop-number : goal.invariant-loop-number
invariant-loop-number l = record {
  scenario : l.world.scenario ≡ l.fn.world.scenario;
  running : l.world.stopped ≡ false;
  signals : l.world.signals ≤ l.fn.world.signals + 3 * l.number;
  counted : l.world.signals + length l.fn.list.items ≤ l.fn.world.signals + length l.list.items;
  goes : GoesLeaves (components l.fn.world.scenario) l.number l.fn.world.world l.world.world l.fn.list.items l.list.items;
}
