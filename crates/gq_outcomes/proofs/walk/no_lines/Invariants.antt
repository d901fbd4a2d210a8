use Rattle.std.proofs.Common.{◌≡◌, length, map}
use Rattle.gq_outcomes.specs.internal.Walks.{AreNone}
use Rattle.gq_outcomes.proofs.walk.no_lines.Given as goal

-- as many as were put, and none has a line
abbrev pub invariant-loop-leaf : goal.invariant-loop-leaf
invariant-loop-leaf l = record { count : length l.said.items ≡ l._leaf; none : AreNone l._leaf (map (λ v. v.items) l.said.items) }
