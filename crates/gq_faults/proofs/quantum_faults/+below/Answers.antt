use Rattle.std.proofs.Common.{◌+◌, ◌∷◌, [], map, drop, refl, arith}
use Rattle.gq_model.specs.texts.Fault_texts.{unresolved_text}
use Rattle.gq_resolve.specs.Resolve_faults.{resource_of}
use Rattle.gq_scenario.specs.Component_trees.{nodes_of}
use Rattle.gq_faults.specs.Scenario_faults.{all_exceeding}
use Rattle.gq_faults.specs.Found_lines.{lines_found}
use Rattle.gq_faults.proofs.Appended_faults.{all_there}
use Rattle.gq_faults.proofs.Init_faults.{exceeding_in_turn, mapped_first, mapped_last, node_smaller}
use Rattle.gq_faults.proofs.Joined_fault_lists.{then_more}
use Rattle.gq_faults.proofs.quantum_faults.+below.Goals as goal

pub push_below-push_node-requires : goal.push_below-push_node-requires
push_below-push_node-requires t c =
    let less = node_smaller c.args.nodes.now c.loop-index.index c.index-nodes-index.result c.loop-index-test.true c.index-nodes-index.is in
    omega (arith, c.decreases, less)

pub push_below-loop-index-preserved : goal.push_below-loop-index-preserved
push_below-loop-index-preserved t c =
    let r = resource_of c.args.resource in
    let xs = c.args.nodes.now in
    let i = c.loop-index.index in
    let x = c.index-nodes-index.result in
    then_more _ (lines_found c.loop-index.found.items) _ (map unresolved_text (all_exceeding r (nodes_of (drop i xs))))
    (map unresolved_text (all_exceeding r (nodes_of (x ∷ [])))) (map unresolved_text (all_exceeding r (nodes_of (drop (i + 1) xs))))
    c.in_ok-push_node.ensures (mapped_first unresolved_text (all_exceeding r) (exceeding_in_turn r) xs i x c.loop-index-test.true c.index-nodes-index.is)
    c.loop-index.invariant

pub push_below-returns : goal.push_below-returns
push_below-returns t c =
    let r = resource_of c.args.resource in
    all_there _ _ _ c.loop-index.invariant (mapped_last unresolved_text (all_exceeding r) refl c.args.nodes.now c.loop-index.index
    c.loop-index-test.false)
