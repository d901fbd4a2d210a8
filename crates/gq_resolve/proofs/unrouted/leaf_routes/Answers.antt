use Rattle.std.proofs.Common.{◌++◌, ◌∙◌, ap, List, ℕ, sym}
use Rattle.gq_model.specs.rules.Resolve.{services_fault}
use Rattle.gq_model.specs.rules.Use.{services}
use Rattle.gq_resolve.specs.Served.{once, served, server_among}
use Rattle.gq_resolve.proofs.Each_once.{fault_once}
use Rattle.gq_resolve.proofs.unrouted.leaf_routes.Goals as goal

pub loop-service-init : goal.loop-service-init
loop-service-init c =
    let all = c.args.leaves.now in
    let component = c.args.component.now in
    let each = c.into_iter-service-iterator.ensures.into_iter_gives.0 ∙ (c.in_ok-services.ensures ∙ ap once c.requires.own) in
    record {
      routes = ap (λ (r : List (List ℕ × ℕ)). r ++ served (server_among all component) c.into_iter-service-iterator.result.rest.items) c.new-routes.ensures
          ∙ ap (served (server_among all component)) each;
      fault = fault_once component (services component) ∙ sym (ap (services_fault component) each);
    }
