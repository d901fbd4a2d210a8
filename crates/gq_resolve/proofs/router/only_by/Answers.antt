use Rattle.std.proofs.Common.{◌++◌, [], List, ℕ, ap, sym, subst, append-nil, ◌∙◌}
use Rattle.gq_model.specs.machine.Scenario.{Nodes}
use Rattle.gq_model.specs.machine.Routes.{Routed, providers, only}
use Rattle.gq_program.specs.Name_keys.{key_of}
use Rattle.gq_resolve.specs.Routing.{led_found}
use Rattle.gq_resolve.specs.internal.Search_keys.{keys_of, AreReportedOf}
use Rattle.gq_scenario.specs.Component_trees.{nodes_of}
use Rattle.gq_resolve.proofs.Keyed_names_found.{length_keys, first_providers, last_providers}
use Rattle.gq_resolve.proofs.router.only_by.Goals as goal

pub loop-place-init : goal.loop-place-init
loop-place-init c =
    let nodes = c.nodes-nodes.result.now in
    let reported = subst (λ (n : Nodes). AreReportedOf c.args.places.now n) (sym c.nodes-nodes.ensures) c.requires in
    let key = c.key_of.ensures ∙ ap key_of c.as_bytes.ensures.bytes in
    ap only (sym (first_providers c.args.service.now nodes c.key_of.result c.range-first.result.0 c.range-first.result.1 key
    (c.range-first.ensures.within (keys_of (nodes_of nodes)) reported.0 (length_keys nodes)) reported.1))

pub returns : goal.returns
returns c =
    let v = c.args.service.now in
    let nodes = c.nodes-nodes.result.now in
    let reported = subst (λ (n : Nodes). AreReportedOf c.args.places.now n) (sym c.nodes-nodes.ensures) c.requires in
    let key = c.key_of.ensures ∙ ap key_of c.as_bytes.ensures.bytes in
    let none = last_providers v nodes c.key_of.result c.range-first.result.0 c.range-first.result.1 key
    (c.range-first.ensures.within (keys_of (nodes_of nodes)) reported.0 (length_keys nodes)) reported.1 c.loop-place.place c.loop-place-test.false in
    let all = ap (λ (n : Nodes). only (providers v n)) (sym c.nodes-nodes.ensures)
    ∙ (c.loop-place.invariant ∙ ap (λ (l : List Routed). only (led_found c.loop-place.found ++ l)) none) in
    c.found_or_none.ensures ∙ sym (all ∙ ap only (append-nil (led_found c.loop-place.found)))
