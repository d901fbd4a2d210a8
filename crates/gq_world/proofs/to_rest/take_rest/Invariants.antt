use Rattle.std.proofs.Common.{◌≡◌, ◌≤◌, ◌-◌, false}
use Rattle.gq_model.specs.machine.Rest.{as_acts, rounds, to_rest}
use Rattle.gq_model.specs.machine.Run.{run_on}
use Rattle.gq_model.specs.machine.Scenario.{system}
use Rattle.gq_world.specs.internal.Act_transitions.{HasLeft}
use Rattle.gq_world.proofs.to_rest.take_rest.Given as goal

-- what is left of the rounds, from here, does what all of them do
abbrev pub invariant-loop-round : goal.invariant-loop-round
invariant-loop-round g l = record {
  scenario : l.world.scenario ≡ l.fn.world.scenario;
  signals : l.world.signals ≤ l.fn.world.signals;
  running : l.world.stopped ≡ false;
  left : HasLeft (run_on (system l.fn.world.scenario) (as_acts (rounds (1000001 - l._round) (system l.fn.world.scenario) l.left l.world.world).turns))
      (run_on (system l.fn.world.scenario) (as_acts (to_rest (system l.fn.world.scenario) l.fn.world.world).turns)) l.fn.world l.world
      (g.W.Write.contents l.fn.out.writer) (g.W.Write.contents l.out.writer);
  counted : l.out.failures ≡ l.fn.out.failures;
}
