use Rattle.std.proofs.Common.{◌+◌, ◌∙◌, List, map, drop}
use Rattle.gq_model.specs.machine.Scenario.{Component}
use Rattle.gq_model.specs.rules.Resolve.{Unresolved}
use Rattle.gq_model.specs.rules.Use.{services}
use Rattle.gq_model.specs.texts.Fault_texts.{unresolved_text}
use Rattle.gq_resolve.specs.Served.{once}
use Rattle.gq_resolve.proofs.Matching_list_items.{same_item}
use Rattle.gq_faults.specs.Scenario_faults.{routes_lost, services_lost}
use Rattle.gq_faults.specs.Found_lines.{lines_found}
use Rattle.gq_faults.proofs.Appended_faults.{mapped_next, mapped_end, all_there}
use Rattle.gq_faults.proofs.Joined_fault_lists.{then_more}
use Rattle.gq_faults.proofs.route_faults.push_routes.Goals as goal

abbrev f : Component → List Unresolved
f c = services_lost c (once (services c))

pub push_leaf-requires : goal.push_leaf-requires
push_leaf-requires c =
    c.as_slice-opened.ensures.value
    ∙ same_item (λ v. v.items) services c.args.opened.now c.args.components.now c.loop-place.place c.index-opened-place.result c.index-components-place.result
    c.requires c.loop-place-test.true c.index-opened-place.is c.index-components-place.is

pub loop-place-preserved : goal.loop-place-preserved
loop-place-preserved c =
    let xs = c.args.components.now in
    let i = c.loop-place.place in
    let x = c.index-components-place.result in
    then_more _ (lines_found c.loop-place.found.items) _ (map unresolved_text (routes_lost (drop i xs))) (map unresolved_text (f x))
    (map unresolved_text (routes_lost (drop (i + 1) xs))) c.in_ok-push_leaf.ensures
    (mapped_next unresolved_text f xs i x c.loop-place-test.true c.index-components-place.is) c.loop-place.invariant

pub returns : goal.returns
returns c =
    all_there _ _ _ c.loop-place.invariant (mapped_end unresolved_text f c.args.components.now c.loop-place.place c.loop-place-test.false)
