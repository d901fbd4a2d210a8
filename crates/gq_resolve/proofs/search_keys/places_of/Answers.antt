use Rattle.std.proofs.Common.{◌≤◌, arith, ℕ, List, [], ◌∷◌, ◌++◌, length, take, ap, subst, ◌∙◌}
use Rattle.gq_model.specs.machine.Scenario.{Nodes}
use Rattle.gq_program.specs.Name_keys.{AreWithin}
use Rattle.gq_scenario.specs.Component_trees.{nodes_of}
use Rattle.gq_scenario.specs.declared.scenario.Node.{Node}
use Rattle.gq_resolve.specs.internal.Search_keys.{keys_of}
use Rattle.gq_resolve.proofs.Keyed_names_found.{all_taken, as_many, keys_more}
use Rattle.gq_resolve.proofs.search_keys.places_of.Goals as goal

pub loop-place-preserved : goal.loop-place-preserved
loop-place-preserved c =
    let items = c.nodes-node-items.result.now in
    let i = c.loop-place.place in
    let keys = keys_of (nodes_of (take i items)) in
    let few : i ≤ length items = omega (arith, c.loop-place-test.true) in
    let reported = ap (λ (k : ℕ). keys ++ k ∷ []) c.node_key.ensures ∙ keys_more items i c.node-item.result c.loop-place-test.true c.node-item.is in
    subst (λ (l : List ℕ). AreWithin c.put.new.self l) reported (c.put.ensures keys c.loop-place.invariant (as_many items i few))

pub returns : goal.returns
returns c =
    let items = c.nodes-node-items.result.now in
    let all = ap (λ (l : List Node). nodes_of l) (all_taken items c.loop-place.place c.loop-place-test.false) ∙ c.nodes-node-items.ensures in
    subst (λ (n : Nodes). AreWithin c.loop-place.places (keys_of n)) all c.loop-place.invariant
