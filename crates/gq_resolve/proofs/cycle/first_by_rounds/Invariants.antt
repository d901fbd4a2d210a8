use Rattle.std.proofs.Common.{◌≡◌, ◌-◌, map, length}
use Rattle.gq_resolve.specs.Reaching.{first_from, first_on_cycle}
use Rattle.gq_resolve.proofs.cycle.first_by_rounds.Given as goal

abbrev pub invariant-loop-leaf : goal.invariant-loop-leaf
invariant-loop-leaf l = first_on_cycle (map (λ s. s.items) l.used) ≡ first_from (map (λ s. s.items) l.used) l.leaf (length l.used - l.leaf)
