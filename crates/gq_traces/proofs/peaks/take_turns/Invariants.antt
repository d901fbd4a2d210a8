use Rattle.std.proofs.Common.{◌-◌, ◌+◌, ◌≤◌}
use Rattle.gq_model.specs.machine.Run.{turns_of}
use Rattle.gq_model.specs.machine.Scenario.{system}
use Rattle.gq_traces.specs.internal.Peaking.{HasTurns, Peaked}
use Rattle.gq_traces.proofs.peaks.take_turns.Given as goal

-- the turns so far were taken
abbrev pub invariant-loop-done : goal.invariant-loop-done
invariant-loop-done l = record {
  few : l.done ≤ l.count;
  peaked : Peaked 0 (λ runs now. HasTurns (system l.fn.world.scenario) l.leaf runs l.turns now l.done) (turns_of (system l.fn.world.scenario) l.leaf l.done)
      l.turns (l.turns + l.done) l.fn.world l.world l.fn.peaks l.peaks;
}

abbrev pub decreases-loop-done : goal.decreases-loop-done
decreases-loop-done l = l.count - l.done
