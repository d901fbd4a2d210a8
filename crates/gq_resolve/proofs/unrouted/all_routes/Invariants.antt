use Rattle.std.proofs.Common.{◌≡◌, ◌++◌, drop, map}
use Rattle.gq_model.specs.rules.Resolve.{routes_fault}
use Rattle.gq_resolve.specs.Served.{leaf_routes}
use Rattle.gq_resolve.proofs.unrouted.all_routes.Given as goal

abbrev pub invariant-loop-place : goal.invariant-loop-place
invariant-loop-place l = record {
  routes : l.routes.items ++ map (leaf_routes l.components) (drop l.place l.components) ≡ map (leaf_routes l.components) l.components;
  fault : routes_fault l.components ≡ routes_fault (drop l.place l.components);
}
