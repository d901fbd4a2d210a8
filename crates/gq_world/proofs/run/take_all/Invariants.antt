use Rattle.std.proofs.Common.{◌≡◌, ◌≤◌, ◌+◌, drop, length}
use Rattle.gq_model.specs.machine.Scenario.{components, system}
use Rattle.gq_world.specs.internal.Act_transitions.{AreOf, HasLeft, lines_on}
use Rattle.gq_world.proofs.run.take_all.Given as goal

-- what is left of the lines, from here, does what all of them do
abbrev pub invariant-loop-item : goal.invariant-loop-item
invariant-loop-item g l = record {
  scenario : l.world.scenario ≡ l.fn.world.scenario;
  signals : l.world.signals ≤ l.fn.world.signals + l.item-index;
  below : AreOf (length (components l.fn.world.scenario)) (drop l.item-index l.turns);
  left : HasLeft (lines_on (system l.fn.world.scenario) (drop l.item-index l.turns)) (lines_on (system l.fn.world.scenario) l.turns) l.fn.world l.world
      (g.W.Write.contents l.fn.out.writer) (g.W.Write.contents l.out.writer);
  counted : l.out.failures ≡ l.fn.out.failures;
}
