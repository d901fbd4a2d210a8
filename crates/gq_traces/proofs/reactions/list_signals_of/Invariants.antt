use Rattle.std.proofs.Common.{◌≡◌, ◌≤◌, ◌+◌, length, false}
use Rattle.std.specs.Prelude.{slice_get}
use Rattle.gq_model.specs.machine.Scenario.{components}
use Rattle.gq_model.specs.texts.Turns.{signals_at}
use Rattle.gq_traces.proofs.Listed_signals.{GoesFrom}
use Rattle.gq_traces.proofs.reactions.list_signals_of.Given as goal

-- the signals before this one are submitted and listed
abbrev pub invariant-loop-signal : goal.invariant-loop-signal
invariant-loop-signal l = record {
  scenario : l.world.scenario ≡ l.fn.world.scenario;
  running : l.world.stopped ≡ false;
  signals : l.world.signals ≤ l.fn.world.signals + l.signal;
  counted : l.world.signals + length l.fn.list.items ≤ l.fn.world.signals + length l.list.items;
  goes : GoesFrom l.leaf l.signal (signals_at (slice_get (components l.fn.world.scenario) l.leaf)) l.fn.world.world l.world.world l.fn.list.items l.list.items;
}
