use Rattle.std.proofs.Common.{◌≡◌, ◌++◌, drop}
use Rattle.gq_outcomes.specs.internal.Racy.{both}
use Rattle.gq_outcomes.proofs.racy.both.Given as goal

-- the marks so far, with those that are left, are all
abbrev pub invariant-loop-place : goal.invariant-loop-place
invariant-loop-place l = l.all.items ++ both (drop l.place l.first) (drop l.place l.second) ≡ both l.first l.second
