use Rattle.std.proofs.Common.{◌∙◌, ap, arith, refl}
use Rattle.gq_model.specs.machine.Accounts.{leaf_count}
use Rattle.gq_scenario.specs.Sizes.{node_count}
use Rattle.gq_sizes.specs.Endless.{children_endless}
use Rattle.gq_sizes.proofs.Least_leaves.{count_here, node_small}
use Rattle.gq_sizes.proofs.Leaves_endless.{node_put, nodes_all}
use Rattle.gq_sizes.proofs.unending.+nodes.Goals as goal

pub of_children-of_node-here-requires : goal.of_children-of_node-here-requires
of_children-of_node-here-requires t c =
    let l = c.loop-node in
    let items = c.nodes-node-items.result.now in
    let node = c.node-item.result in
    let small = node_small items l.node-index node c.loop-node-test.true c.node-item.is in
    let here = count_here items l.node-index node c.loop-node-test.true c.node-item.is in
    let nodes = ap node_count c.nodes-node-items.ensures in
    let leaves = ap leaf_count c.nodes-node-items.ensures in
    (omega (arith, c.decreases, small, nodes), omega (arith, c.requires, here, leaves, l.invariant.leaves))

pub of_children-loop-node-preserved : goal.of_children-loop-node-preserved
of_children-loop-node-preserved t c =
    let l = c.loop-node in
    let items = c.nodes-node-items.result.now in
    let node = c.node-item.result in
    let within = c.loop-node-test.true in
    let is = c.node-item.is in
    let here = c.of_node-here in
    record {
      found = λ all e. node_put items l.node-index node within is all l.next here.result.1 l.found here.result.0 _ _ here.ensures.next
          (here.ensures.found all e) refl (l.invariant.found all e);
      leaves = omega (arith, l.invariant.leaves, here.ensures.next, count_here items l.node-index node within is);
    }

pub of_children-returns-clause-found : goal.of_children-returns-clause-found
of_children-returns-clause-found t c all e =
    let l = c.loop-node in
    nodes_all all c.nodes-node-items.result.now l.node-index c.args.first l.next l.found c.loop-node-test.false (l.invariant.found all e)
    ∙ ap (children_endless all c.args.first) c.nodes-node-items.ensures
