use Rattle.std.proofs.Common.{◌∙◌, ap, arith}
use Rattle.gq_model.specs.machine.Accounts.{leaf_count}
use Rattle.gq_model.specs.machine.Scenario.{below}
use Rattle.gq_scenario.specs.Sizes.{node_count}
use Rattle.gq_scenario.specs.Component_trees.{version_number}
use Rattle.gq_sizes.proofs.Least_leaves.{count_here, node_small}
use Rattle.gq_sizes.proofs.Printed_size_nodes.{init_alone_put, leaf_alone, node_put}
use Rattle.gq_sizes.proofs.node_lines.+nodes.Goals as goal

pub push_below-returns-in_ok-pushed-in-Leaf-clause-lines : goal.push_below-returns-in_ok-pushed-in-Leaf-clause-lines
push_below-returns-in_ok-pushed-in-Leaf-clause-lines t c all e =
    let label = c.args.label.now in
    let x = c.args.first in
    let there = c.as_slice.ensures.value ∙ (c.in_ok-label-in-Leaf.ensures ∙ ap (below label) (c.as_bytes.ensures.bytes ∙ c.name.ensures)) in
    leaf_alone (version_number c.args.version) all label c.in-Leaf.leaf c.args.node.now c.in-Leaf.is x c.as_slice.result.now c.quantum.result
    c.of_leaf-needed.result.ram c.of_leaf-needed.result.caps c.args.text.now.items c.push_node-pushed.new.text.items there c.quantum.ensures
    (c.of_leaf-needed.ensures all e).0 (c.of_leaf-needed.ensures all e).1 c.in_ok-pushed-in-Leaf.ensures

pub push_below-returns-in_ok-label-in-Init-clause-lines : goal.push_below-returns-in_ok-label-in-Init-clause-lines
push_below-returns-in_ok-label-in-Init-clause-lines t c all e =
    let label = c.args.label.now in
    let there =
    c.as_slice-in-Init.ensures.value ∙ (c.in_ok-label-in-Init.ensures ∙ ap (below label) (c.as_bytes-in-Init.ensures.bytes ∙ c.name-in-Init.ensures)) in
    init_alone_put c.push_init-pushed.result (version_number c.args.version) all label c.in-Init.init c.in-Init.children c.args.node.now c.in-Init.is
    c.args.first
    c.as_slice-in-Init.result.now c.quantum-in-Init.result c.args.text.now.items c.push_init-pushed.new.text.items there c.quantum-in-Init.ensures
    (c.push_init-pushed.ensures.lines all e)

pub push_nodes-push_below-requires : goal.push_nodes-push_below-requires
push_nodes-push_below-requires t c =
    let l = c.loop-node in
    let items = c.nodes-node-items.result.now in
    let node = c.node-item.result in
    let small = node_small items l.node-index node c.loop-node-test.true c.node-item.is in
    let here = count_here items l.node-index node c.loop-node-test.true c.node-item.is in
    let nodes = ap node_count c.nodes-node-items.ensures in
    let leaves = ap leaf_count c.nodes-node-items.ensures in
    (omega (arith, c.decreases, small, nodes), omega (arith, c.requires, here, leaves, l.invariant.leaves))

pub push_nodes-loop-node-preserved : goal.push_nodes-loop-node-preserved
push_nodes-loop-node-preserved t c =
    let l = c.loop-node in
    let items = c.nodes-node-items.result.now in
    let node = c.node-item.result in
    let within = c.loop-node-test.true in
    let is = c.node-item.is in
    record {
      lines = λ all e. node_put (version_number c.args.version) all c.args.label.now items l.node-index node within is l.next c.in_ok-next.next l.text.items
          c.push_below.new.text.items _ c.in_ok-next.ensures.next (c.in_ok-next.ensures.lines all e) (l.invariant.lines all e);
      leaves = omega (arith, l.invariant.leaves, c.in_ok-next.ensures.next, count_here items l.node-index node within is);
    }
