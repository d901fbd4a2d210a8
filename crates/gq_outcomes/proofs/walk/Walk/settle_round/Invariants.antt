use Rattle.std.proofs.Common.{◌≡◌, ◌++◌, ◌≤◌, List, ℕ, drop}
use Rattle.gq_model.specs.machine.Scenario.{components}
use Rattle.gq_outcomes.specs.Outcomes.{explored, round}
use Rattle.gq_outcomes.specs.internal.Walks.{IsOnWay, reached}
use Rattle.gq_outcomes.proofs.walk.Walk.settle_round.Given as goal

-- the leaves that are left go on to where the round ends
abbrev pub invariant-loop-number : goal.invariant-loop-number
invariant-loop-number l = record {
  walk : IsOnWay l.fn.self.world.scenario l.self;
  few : l.left ≤ l.most;
  more : (turns : List ℕ) × (l.self.past.items ≡ l.fn.self.past.items ++ turns);
  on : round (explored l.fn.self.world.scenario) l.number (drop l.number (components l.fn.self.world.scenario))
      (record { point = reached l.fn.self.world.scenario l.self.past.items; left = l.left })
      ≡ round (explored l.fn.self.world.scenario) 0 (components l.fn.self.world.scenario)
      (record { point = reached l.fn.self.world.scenario l.fn.self.past.items; left = l.most });
}
