use Rattle.std.proofs.Common.{◌≡◌, ◌∙◌, ◌<◌, ◌++◌, ap₂, get_or, length, subst}
use Rattle.gq_model.specs.machine.Scenario.{components}
use Rattle.gq_views.specs.internal.Opened_services.{arrows_of}
use Rattle.gq_views.specs.internal.Table_leaves.{no_component}
use Rattle.gq_views.proofs.Printed_boxes.{services_here}
use Rattle.gq_views.proofs.Printed_statements.{grown}
use Rattle.gq_views.proofs.Table_leaf_servers.{get_same}
use Rattle.gq_views.proofs.graph.push_all_services.Goals as goal

pub loop-leaf-preserved : goal.loop-leaf-preserved
loop-leaf-preserved c =
    let l = c.loop-leaf in
    let s = c.args.drawn.now in
    let places = c.args.places.now in
    let node = get_or (components s) l.leaf no_component in
    let within : l.leaf < length (components s) = subst (λ n. l.leaf < n) c.leaf_count-leaf-end.ensures.count c.loop-leaf-test.true in
    let is : node ≡ get_or (components s) l.leaf node = get_same (components s) l.leaf no_component node within in
    let reported = ap₂ (λ from opened. l.text.items ++ arrows_of places from opened) c.place_of.ensures c.opened.ensures in
    grown l.text.items c.push_services.new.text.items _ _ _ (c.in_ok-push_services.ensures ∙ reported) (services_here s places l.leaf node within is) ∙
    l.invariant
