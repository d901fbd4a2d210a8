use Rattle.std.proofs.Common.{◌≡◌, ◌++◌, drop}
use Rattle.gq_resolve.specs.Served.{servers}
use Rattle.gq_resolve.proofs.routes.LeafRoutes.numbers.Given as goal

abbrev pub invariant-loop-service : goal.invariant-loop-service
invariant-loop-service l = l.numbers.items ++ servers (drop l._service-index l._service-items) ≡ servers l._service-items
