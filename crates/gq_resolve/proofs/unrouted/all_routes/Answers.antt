use Rattle.std.proofs.Common.{List, [], ◌∷◌, ◌++◌, ◌+◌, ◌∙◌, ap, drop, map}
use Rattle.gq_model.specs.rules.Resolve.{routes_fault}
use Rattle.gq_model.specs.machine.Scenario.{Component}
use Rattle.gq_model.specs.machine.Lists.{or_first}
use Rattle.gq_resolve.specs.Served.{leaf_routes}
use Rattle.gq_resolve.proofs.Mapped_list_growth.{next_is, onto}
use Rattle.gq_model.specs.rules.Use.{services}
use Rattle.gq_resolve.proofs.Matching_list_items.{same_item}
use Rattle.gq_resolve.proofs.unrouted.all_routes.Goals as goal

pub leaf_routes-requires-clause-own : goal.leaf_routes-requires-clause-own
leaf_routes-requires-clause-own c =
    c.as_slice.ensures.value
    ∙ same_item (λ v. v.items) services c.args.opened.now c.args.components.now c.loop-place.place c.index-opened-place.result c.index-components-place.result
    c.requires.own c.loop-place-test.true c.index-opened-place.is c.index-components-place.is

pub loop-place-preserved : goal.loop-place-preserved
loop-place-preserved c =
    let l = c.loop-place in
    let all = c.args.components.now in
    let x = c.index-components-place.result in
    let e = next_is all l.place x c.loop-place-test.true c.index-components-place.is in
    let rest = drop (l.place + 1) all in
    let reported = c.in_ok-leaf_routes.ensures.routes ∙ ap (λ (leaves : List Component). leaf_routes leaves x) c.new-leaves.ensures in
    record {
      routes =
          onto l.routes.items c.push.new.self.items (leaf_routes all x ∷ []) (map (leaf_routes all) rest) (map (leaf_routes all) (drop l.place all))
          (map (leaf_routes all) all) (c.in_ok-push.ensures.items ∙ ap (λ r. l.routes.items ++ r ∷ []) reported) (ap (map (leaf_routes all)) e)
          l.invariant.routes;
      fault = l.invariant.fault ∙ (ap routes_fault e ∙ ap (λ f. or_first f (routes_fault rest)) c.in_ok-leaf_routes.ensures.fault);
    }
