use Rattle.std.proofs.Common.{◌-◌, ◌≤◌}
use Rattle.gq_model.specs.machine.Scenario.{system}
use Rattle.gq_traces.specs.Trace.{after_turns}
use Rattle.gq_traces.specs.internal.Follows.{Follows}
use Rattle.gq_traces.proofs.follow.take_turns.Given as goal

-- the turns so far were taken
abbrev pub invariant-loop-done : goal.invariant-loop-done
invariant-loop-done l = record {
  few : l.done ≤ l.count;
  follows : Follows 0 (after_turns (system l.fn.world.scenario) l.leaf l.done) l.fn.world l.world l.fn.followed l.followed;
}

abbrev pub decreases-loop-done : goal.decreases-loop-done
decreases-loop-done l = l.count - l.done
