use Rattle.std.proofs.Common.{◌≡◌, ◌++◌, ◌≤◌, List, ℕ}
use Rattle.gq_outcomes.specs.Outcomes.{explored, while_settling}
use Rattle.gq_outcomes.specs.internal.Walks.{IsOnWay, reached}
use Rattle.gq_outcomes.proofs.walk.Walk.settle_leaf.Given as goal

-- with the turns that are left it goes on to where the leaf settles
abbrev pub invariant-loop-left : goal.invariant-loop-left
invariant-loop-left l = record {
  walk : IsOnWay l.fn.self.world.scenario l.self;
  few : l.left ≤ l.most;
  more : (turns : List ℕ) × (l.self.past.items ≡ l.fn.self.past.items ++ turns);
  on : while_settling l.left (explored l.fn.self.world.scenario) l.leaf (reached l.fn.self.world.scenario l.self.past.items)
      ≡ while_settling l.most (explored l.fn.self.world.scenario) l.leaf (reached l.fn.self.world.scenario l.fn.self.past.items);
}

abbrev pub decreases-loop-left : goal.decreases-loop-left
decreases-loop-left l = l.left
