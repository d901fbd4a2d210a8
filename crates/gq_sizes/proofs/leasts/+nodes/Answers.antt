use Rattle.std.proofs.Common.{ap, arith}
use Rattle.gq_model.specs.machine.Accounts.{leaf_count}
use Rattle.gq_scenario.specs.Sizes.{node_count}
use Rattle.gq_sizes.proofs.Least_leaves.{count_here, node_small}
use Rattle.gq_sizes.proofs.Least_number_rows.{node_put}
use Rattle.gq_sizes.proofs.leasts.+nodes.Goals as goal

pub push_nodes-push_node-requires : goal.push_nodes-push_node-requires
push_nodes-push_node-requires t c =
    let l = c.loop-node in
    let items = c.nodes-node-items.result.now in
    let node = c.node-item.result in
    let small = node_small items l.node-index node c.loop-node-test.true c.node-item.is in
    let here = count_here items l.node-index node c.loop-node-test.true c.node-item.is in
    let nodes = ap node_count c.nodes-node-items.ensures in
    let leaves = ap leaf_count c.nodes-node-items.ensures in
    (omega (arith, c.decreases, small, nodes), omega (arith, c.requires, here, leaves, l.invariant.leaves))

pub push_nodes-loop-node-preserved : goal.push_nodes-loop-node-preserved
push_nodes-loop-node-preserved t c =
    let l = c.loop-node in
    let items = c.nodes-node-items.result.now in
    let node = c.node-item.result in
    let within = c.loop-node-test.true in
    let is = c.node-item.is in
    record {
      least = λ all e. node_put all items l.node-index node within is l.next c.in_ok-next.next l.least.items c.push_node.new.least.items _
          c.in_ok-next.ensures.next (c.in_ok-next.ensures.least all e) (l.invariant.least all e);
      leaves = omega (arith, l.invariant.leaves, c.in_ok-next.ensures.next, count_here items l.node-index node within is);
    }
