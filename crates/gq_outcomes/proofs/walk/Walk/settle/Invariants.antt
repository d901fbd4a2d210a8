use Rattle.std.proofs.Common.{◌≡◌, ◌++◌, ◌≤◌, List, ℕ}
use Rattle.gq_outcomes.specs.Outcomes.{explored, settled}
use Rattle.gq_outcomes.specs.internal.Walks.{IsOnWay, reached}
use Rattle.gq_outcomes.proofs.walk.Walk.settle.Given as goal

-- further rounds go on to where all of them end
abbrev pub invariant-loop-next : goal.invariant-loop-next
invariant-loop-next l = record {
  walk : IsOnWay l.fn.self.world.scenario l.self;
  few : l.left ≤ l.most;
  more : (turns : List ℕ) × (l.self.past.items ≡ l.fn.self.past.items ++ turns);
  on : settled (explored l.fn.self.world.scenario) (record { point = reached l.fn.self.world.scenario l.self.past.items; left = l.left })
      ≡ settled (explored l.fn.self.world.scenario) (record { point = reached l.fn.self.world.scenario l.fn.self.past.items; left = l.most });
}

abbrev pub decreases-loop-next : goal.decreases-loop-next
decreases-loop-next l = l.left
