use Rattle.std.proofs.Common.{◌≡◌, ◌-◌}
use Rattle.gq_model.specs.machine.Run.{turns_of}
use Rattle.gq_model.specs.machine.Scenario.{system}
use Rattle.gq_unverified.specs.internal.Taking.{HasLeft, IsNear}
use Rattle.gq_unverified.proofs.tested_turns.take_turns.Given as goal

-- what is left of the turns, from here, does what all of them do
abbrev pub invariant-loop-turn : goal.invariant-loop-turn
invariant-loop-turn g l = record {
  scenario : l.machine.scenario ≡ l.fn.machine.scenario;
  near : IsNear l.fn.machine.world l.machine.world l.turn;
  left : HasLeft (turns_of (system l.fn.machine.scenario) l.leaf (l.count - l.turn)) (turns_of (system l.fn.machine.scenario) l.leaf l.count)
      l.fn.machine.world l.machine.world (g.W.Write.contents l.fn.out.writer) (g.W.Write.contents l.out.writer);
  counted : l.out.failures ≡ l.fn.out.failures;
}
