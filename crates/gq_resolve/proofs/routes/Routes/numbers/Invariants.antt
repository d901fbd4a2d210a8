use Rattle.std.proofs.Common.{◌≡◌, ◌++◌, drop, map}
use Rattle.gq_resolve.specs.Served.{servers}
use Rattle.gq_resolve.proofs.routes.Routes.numbers.Given as goal

abbrev pub invariant-loop-leaf : goal.invariant-loop-leaf
invariant-loop-leaf l = map (λ u. u.items) l.used.items ++ map servers (drop l.leaf-index l.leaf-items) ≡ map servers l.leaf-items
