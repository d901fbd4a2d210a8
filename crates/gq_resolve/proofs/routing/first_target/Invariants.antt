use Rattle.std.proofs.Common.{◌≡◌, drop}
use Rattle.gq_model.specs.machine.Scenario.{Nodes}
use Rattle.gq_model.specs.machine.Routes.{Routed, first_fit}
use Rattle.gq_resolve.proofs.routing.first_target.Given as goal

abbrev pub invariant-loop-route : goal.invariant-loop-route
invariant-loop-route l = (siblings : Nodes) (above : Routed)
    → first_fit l.routes l.service siblings above ≡ first_fit (drop l.route-index l.routes) l.service siblings above
