use Rattle.gq_model.specs.machine.Scenario.{system}
use Rattle.gq_world.proofs.Resting_worlds.{NoneBefore}
use Rattle.gq_world.proofs.world.World.is_at_rest.Given as goal

-- none of the leaves so far can
abbrev pub invariant-loop-number : goal.invariant-loop-number
invariant-loop-number l = NoneBefore (system l.fn.self.scenario) l.number l.fn.self.world
