use Rattle.std.proofs.Common.{◌≡◌, map}
use Rattle.gq_resolve.specs.Reaching.{flags_by}
use Rattle.gq_resolve.proofs.cycle.reaching.Given as goal

abbrev pub invariant-loop-round : goal.invariant-loop-round
invariant-loop-round l = l.flags.items ≡ flags_by l._round (map (λ s. s.items) l.used) l.goal
