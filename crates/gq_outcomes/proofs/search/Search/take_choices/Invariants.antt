use Rattle.std.proofs.Common.{suc, cond, length}
use Rattle.gq_model.specs.machine.Scenario.{components}
use Rattle.gq_outcomes.specs.internal.Search_states.{ComesTo, IsSearch}
use Rattle.gq_outcomes.specs.internal.Walks.{IsOnWay}
use Rattle.gq_outcomes.proofs.search.Search.take_choices.Given as goal

-- a search of this scenario, which comes to the same
abbrev pub invariant-loop-self : goal.invariant-loop-self
invariant-loop-self l = record {
  walk : IsOnWay l.fn.walk.world.scenario l.walk;
  search : IsSearch (length (components l.fn.walk.world.scenario)) l.self;
  comes : (u : _) → ComesTo l.fn.walk.world.scenario l.fn.walk.past.items l.fn.self u → ComesTo l.fn.walk.world.scenario l.walk.past.items l.self u;
}

abbrev pub decreases-loop-self : goal.decreases-loop-self
decreases-loop-self l = cond l.self.cut 0 (suc l.self.left)
