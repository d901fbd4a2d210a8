use Rattle.std.proofs.Common.{◌≡◌, ◌-◌, length}
use Rattle.gq_model.specs.machine.Rest.{while_can}
use Rattle.gq_model.specs.machine.Run.{turns_of}
use Rattle.gq_model.specs.machine.Scenario.{system}
use Rattle.gq_unverified.specs.internal.Taking.{HasLeft, IsNear}
use Rattle.gq_unverified.proofs.Tested_rest_runs.{HasGone}
use Rattle.gq_unverified.proofs.tested_rest.take_most.Given as goal

-- what is left of the turns, from here, does what all of them do
abbrev pub invariant-loop-taken : goal.invariant-loop-taken
invariant-loop-taken g l = record {
  scenario : l.machine.scenario ≡ l.fn.machine.scenario;
  near : IsNear l.fn.machine.world l.machine.world l.taken;
  gone : HasGone (system l.fn.machine.scenario) l.leaf l.most l.taken l.fn.machine.world l.machine.world;
  left : HasLeft (turns_of (system l.fn.machine.scenario) l.leaf (while_can (l.most - l.taken) (system l.fn.machine.scenario) l.machine.world l.leaf).0)
      (turns_of (system l.fn.machine.scenario) l.leaf (while_can l.most (system l.fn.machine.scenario) l.fn.machine.world l.leaf).0)
      l.fn.machine.world l.machine.world (g.W.Write.contents l.fn.out.writer) (g.W.Write.contents l.out.writer);
  counted : l.out.failures ≡ l.fn.out.failures;
}
