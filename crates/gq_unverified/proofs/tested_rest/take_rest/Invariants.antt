use Rattle.std.proofs.Common.{◌≡◌, ◌≤◌, ◌-◌, length}
use Rattle.gq_model.specs.machine.Rest.{as_acts, to_rest}
use Rattle.gq_model.specs.machine.Run.{run_on}
use Rattle.gq_model.specs.machine.Scenario.{system}
use Rattle.gq_world.proofs.Rest_runs.{RoundsLeft}
use Rattle.gq_unverified.specs.internal.Taking.{IsNear}
use Rattle.gq_unverified.proofs.Tested_rest_runs.{as_world}
use Rattle.gq_unverified.proofs.tested_rest.take_rest.Given as goal

-- what is left of the rounds, from here, does what all of them do
abbrev pub invariant-loop-round : goal.invariant-loop-round
invariant-loop-round g l = record {
  scenario : l.machine.scenario ≡ l.fn.machine.scenario;
  few : l.left ≤ 1000000;
  near : IsNear l.fn.machine.world l.machine.world (1000000 - l.left);
  left : RoundsLeft (system l.fn.machine.scenario) (1000001 - l._round) l.left
      (run_on (system l.fn.machine.scenario) (as_acts (to_rest (system l.fn.machine.scenario) l.fn.machine.world).turns))
      (as_world l.fn.machine.scenario l.fn.machine.world) (as_world l.fn.machine.scenario l.machine.world) (g.W.Write.contents l.fn.out.writer)
      (g.W.Write.contents l.out.writer);
  counted : l.out.failures ≡ l.fn.out.failures;
}
