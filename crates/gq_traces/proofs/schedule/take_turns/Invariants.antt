use Rattle.std.proofs.Common.{◌≡◌, ◌-◌, false}
use Rattle.gq_model.specs.machine.Scenario.{system}
use Rattle.gq_traces.proofs.Repeated_leaf_turns.{HasCome}
use Rattle.gq_traces.proofs.schedule.take_turns.Given as goal

-- after the turns so far, what is left of the most leads where all of them lead
abbrev pub invariant-loop-taken : goal.invariant-loop-taken
invariant-loop-taken l = record {
  scenario : l.world.scenario ≡ l.fn.world.scenario;
  running : l.world.stopped ≡ false;
  signals : l.world.signals ≡ l.fn.world.signals;
  come : HasCome (system l.fn.world.scenario) l.leaf l.most l.taken l.fn.world.world l.world.world;
}

abbrev pub decreases-loop-taken : goal.decreases-loop-taken
decreases-loop-taken l = l.most - l.taken
