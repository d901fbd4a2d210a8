use Rattle.std.proofs.Common.{◌≡◌, ◌++◌, map, drop}
use Rattle.gq_resolve.specs.Reaching.{one_more}
use Rattle.gq_resolve.proofs.cycle.one_more.Given as goal

abbrev pub invariant-loop-servers : goal.invariant-loop-servers
invariant-loop-servers l =
    l.next.items ++ one_more (map (λ s. s.items) (drop l.servers-index l.used)) l.goal l.flags ≡ one_more (map (λ s. s.items) l.used) l.goal l.flags
