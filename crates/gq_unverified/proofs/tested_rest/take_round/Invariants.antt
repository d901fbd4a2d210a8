use Rattle.std.proofs.Common.{◌≡◌, ◌-◌, ◌≤◌, length}
use Rattle.gq_model.specs.machine.Scenario.{system}
use Rattle.gq_world.proofs.Rest_runs.{RoundLeft}
use Rattle.gq_unverified.specs.internal.Taking.{IsNear}
use Rattle.gq_unverified.proofs.Tested_rest_runs.{as_world}
use Rattle.gq_unverified.proofs.tested_rest.take_round.Given as goal

-- what is left of the round, from here, does what all of it does
abbrev pub invariant-loop-number : goal.invariant-loop-number
invariant-loop-number g l = record {
  scenario : l.machine.scenario ≡ l.fn.machine.scenario;
  few : l.left ≤ l.most;
  near : IsNear l.fn.machine.world l.machine.world (l.most - l.left);
  left : RoundLeft (system l.fn.machine.scenario) l.most l.number l.left (as_world l.fn.machine.scenario l.fn.machine.world)
      (as_world l.fn.machine.scenario l.machine.world) (g.W.Write.contents l.fn.out.writer) (g.W.Write.contents l.out.writer);
  counted : l.out.failures ≡ l.fn.out.failures;
}
