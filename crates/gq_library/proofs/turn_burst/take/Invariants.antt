use Rattle.std.proofs.Common.{◌≡◌, ◌-◌, ◌≤◌, [], true}
use Rattle.gq_machine.specs.Events.{event_of}
use Rattle.gq_model.specs.machine.Scenario.{system}
use Rattle.gq_library.specs.C_turns.{burst}
use Rattle.gq_library.specs.internal.Turns_left.{IsSilent, Leads}
use Rattle.gq_library.proofs.turn_burst.take.Given as goal

-- the turns so far showed no line and no end, and those that are left go on from here
abbrev pub invariant-loop-rest : goal.invariant-loop-rest
invariant-loop-rest l = record {
  scenario : l.world.scenario ≡ l.fn.world.scenario;
  stopped : l.world.stopped ≡ l.fn.world.stopped;
  few : l.rest ≤ l.left;
  silent : IsSilent l.shown;
  leads : Leads (system l.fn.world.scenario) l.leaf (burst (l.most - l.left) (event_of l.fn.event []) l.fn.world.world) l.left
      (burst (l.most - l.rest) (event_of l.shown []) l.world.world) l.rest true;
}

abbrev pub decreases-loop-rest : goal.decreases-loop-rest
decreases-loop-rest l = l.rest
