use Rattle.std.proofs.Common.{◌≡◌, length}
use Rattle.gq_outcomes.specs.internal.Walks.{AreNone, IsWalk, said_of}
use Rattle.gq_outcomes.proofs.walk.Walk.forget_lines.Given as goal

-- all but the lines stays, and so many leaves have none
abbrev pub invariant-loop-place : goal.invariant-loop-place
invariant-loop-place l = record {
  walk : IsWalk l.fn.self.world.scenario l.self;
  world : l.self.world ≡ l.fn.self.world;
  past : l.self.past ≡ l.fn.self.past;
  count : length l.self.said.items ≡ length l.fn.self.said.items;
  none : AreNone l.place (said_of l.self);
}
