use Rattle.std.proofs.Common.{◌≡◌, ◌≤◌}
use Rattle.gq_model.specs.machine.Scenario.{system}
use Rattle.gq_model.specs.machine.Run.{turns_of}
use Rattle.gq_world.specs.internal.Act_transitions.{HasLeft}
use Rattle.gq_world.proofs.run.take_turns.Given as goal

-- what is left of the turns, from here, does what all of them do
abbrev pub invariant-loop-left : goal.invariant-loop-left
invariant-loop-left g l = record {
  scenario : l.world.scenario ≡ l.fn.world.scenario;
  signals : l.world.signals ≡ l.fn.world.signals;
  few : l.left ≤ l.count;
  left : HasLeft (turns_of (system l.fn.world.scenario) l.leaf l.left) (turns_of (system l.fn.world.scenario) l.leaf l.count) l.fn.world l.world
      (g.W.Write.contents l.fn.out.writer) (g.W.Write.contents l.out.writer);
  counted : l.out.failures ≡ l.fn.out.failures;
}

abbrev pub decreases-loop-left : goal.decreases-loop-left
decreases-loop-left g l = l.left
