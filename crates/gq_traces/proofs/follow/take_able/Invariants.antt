use Rattle.std.proofs.Common.{◌-◌}
use Rattle.gq_model.specs.machine.Scenario.{system}
use Rattle.gq_traces.specs.Trace.{after_turns}
use Rattle.gq_traces.specs.internal.Follows.{Follows}
use Rattle.gq_traces.proofs.Repeated_leaf_turns.{HasCome}
use Rattle.gq_traces.proofs.follow.take_able.Given as goal

-- the turns so far were taken, each of which is a step
abbrev pub invariant-loop-done : goal.invariant-loop-done
invariant-loop-done l = record {
  come : HasCome (system l.fn.world.scenario) l.leaf l.most l.done l.fn.world.world l.world.world;
  follows : Follows 0 (after_turns (system l.fn.world.scenario) l.leaf l.done) l.fn.world l.world l.fn.followed l.followed;
}

abbrev pub decreases-loop-done : goal.decreases-loop-done
decreases-loop-done l = l.most - l.done
