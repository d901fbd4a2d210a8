use Rattle.std.proofs.Common.{◌≡◌, ◌∙◌, ◌<◌, ◌++◌, ap, ap₂, get_or, length, Some, subst}
use Rattle.std.specs.Prelude.{slice_get, slice_index}
use Rattle.std.proofs.lemmas.Option.{slice_get-get_or}
use Rattle.gq_model.specs.machine.Scenario.{components}
use Rattle.gq_views.specs.internal.Opened_services.{started_after}
use Rattle.gq_views.specs.internal.Table_leaves.{no_component}
use Rattle.gq_views.specs.Tree.{arrow_from}
use Rattle.gq_views.proofs.Printed_boxes.{after_by_number, afters_here}
use Rattle.gq_views.proofs.Printed_statements.{grown}
use Rattle.gq_views.proofs.Table_leaf_servers.{get_same}
use Rattle.gq_views.proofs.graph.push_all_afters.Goals as goal

pub loop-leaf-preserved : goal.loop-leaf-preserved
loop-leaf-preserved c =
    let l = c.loop-leaf in
    let s = c.args.drawn.now in
    let places = c.args.places.now in
    let node = get_or (components s) l.leaf no_component in
    let within : l.leaf < length (components s) = subst (λ n. l.leaf < n) c.leaf_count-leaf-end.ensures.count c.loop-leaf-test.true in
    let is : node ≡ get_or (components s) l.leaf node = get_same (components s) l.leaf no_component node within in
    let there : slice_get (components s) l.leaf ≡ Some node = slice_get-get_or (components s) l.leaf no_component within in
    let after = c.after.ensures ∙ ap (started_after s) there in
    let reported =
    ap₂ (λ to after. l.text.items ++ arrow_from places after to) c.place_of.ensures after
    ∙ ap (λ t. l.text.items ++ t) (after_by_number s places (slice_index places l.leaf) node.node.after) in
    grown l.text.items c.push_after.new.text.items _ _ _ (c.in_ok-push_after.ensures ∙ reported) (afters_here s places l.leaf node within is) ∙ l.invariant
