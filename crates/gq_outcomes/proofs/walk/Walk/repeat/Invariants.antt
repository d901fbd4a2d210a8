use Rattle.std.proofs.Common.{◌≡◌, take}
use Rattle.gq_outcomes.specs.internal.Walks.{At, IsWalk}
use Rattle.gq_outcomes.proofs.walk.Walk.repeat.Given as goal

-- it is after so many of the turns
abbrev pub invariant-loop-place : goal.invariant-loop-place
invariant-loop-place l = record {
  walk : IsWalk l.fn.self.world.scenario l.self;
  past : l.self.past ≡ l.fn.self.past;
  at : At l.fn.self.world.scenario l.self (take l.place l.fn.self.past.items);
}
