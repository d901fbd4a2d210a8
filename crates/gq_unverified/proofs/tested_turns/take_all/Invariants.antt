use Rattle.std.proofs.Common.{◌≡◌, drop, length}
use Rattle.gq_model.specs.machine.Scenario.{components, system}
use Rattle.gq_world.specs.internal.Act_transitions.{AreOf, lines_on}
use Rattle.gq_unverified.specs.internal.Taking.{HasLeft, HasRoom, turns_in}
use Rattle.gq_unverified.proofs.tested_turns.take_all.Given as goal

-- what is left of the turns, from here, does what all of them do, and there is room to count them
abbrev pub invariant-loop-item : goal.invariant-loop-item
invariant-loop-item g l = record {
  scenario : l.machine.scenario ≡ l.fn.machine.scenario;
  leaves : length l.machine.world.leaves ≡ length l.fn.machine.world.leaves;
  below : AreOf (length (components l.fn.machine.scenario)) (drop l.item-index l.turns);
  room : HasRoom l.machine.world (turns_in (drop l.item-index l.turns));
  left : HasLeft (lines_on (system l.fn.machine.scenario) (drop l.item-index l.turns)) (lines_on (system l.fn.machine.scenario) l.turns)
      l.fn.machine.world l.machine.world (g.W.Write.contents l.fn.out.writer) (g.W.Write.contents l.out.writer);
  counted : l.out.failures ≡ l.fn.out.failures;
}
