use Rattle.std.proofs.Common.{◌≡◌, ◌++◌}
use Rattle.gq_model.specs.rules.Resolve.{services_fault}
use Rattle.gq_model.specs.rules.Use.{services}
use Rattle.gq_resolve.specs.Served.{served, server_among, leaf_routes}
use Rattle.gq_resolve.proofs.unrouted.leaf_routes.Given as goal

-- the services that are left end the routes, and the first fault is among them
abbrev pub invariant-loop-service : goal.invariant-loop-service
invariant-loop-service l = record {
  routes : l.routes ++ served (server_among l.leaves l.component) l.service-iterator.rest.items ≡ leaf_routes l.leaves l.component;
  fault : services_fault l.component (services l.component) ≡ services_fault l.component l.service-iterator.rest.items;
}
