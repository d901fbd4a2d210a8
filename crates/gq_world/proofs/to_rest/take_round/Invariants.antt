use Rattle.std.proofs.Common.{◌≡◌, ◌≤◌, false}
use Rattle.gq_model.specs.machine.Scenario.{system}
use Rattle.gq_world.proofs.Rest_runs.{RoundLeft}
use Rattle.gq_world.proofs.to_rest.take_round.Given as goal

-- what is left of the round, from here, does what all of it does
abbrev pub invariant-loop-number : goal.invariant-loop-number
invariant-loop-number g l = record {
  scenario : l.world.scenario ≡ l.fn.world.scenario;
  signals : l.world.signals ≤ l.fn.world.signals;
  running : l.world.stopped ≡ false;
  left : RoundLeft (system l.fn.world.scenario) l.most l.number l.left l.fn.world l.world (g.W.Write.contents l.fn.out.writer)
      (g.W.Write.contents l.out.writer);
  counted : l.out.failures ≡ l.fn.out.failures;
}
