use Rattle.std.proofs.Common.{◌≡◌, ◌+◌, ◌*◌, ◌++◌, drop}
use Rattle.gq_model.specs.machine.Accounts.{leaf_count}
use Rattle.gq_model.specs.rules.Accept.{budgets}
use Rattle.gq_scenario.specs.Sizes.{node_count}
use Rattle.gq_scenario.specs.Component_trees.{nodes_of}
use Rattle.gq_views.specs.Tree.{node_boxes}
use Rattle.gq_views.proofs.graph.+boxes.Given as goal

abbrev pub decreases-push_boxes : goal.decreases-push_boxes
decreases-push_boxes l = 2 * node_count l.nodes.now

abbrev pub decreases-push_cluster : goal.decreases-push_cluster
decreases-push_cluster l = 2 * node_count l.children.now + 1

-- the boxes so far, with those of the nodes that are left, are all
abbrev pub invariant-push_boxes-loop-node : goal.invariant-push_boxes-loop-node
invariant-push_boxes-loop-node l =
    record {
      reported :
          l.text.items ++ node_boxes l.drawn.version (budgets l.drawn) l.depth l.at.node l.at.leaf (nodes_of (drop l.node-index l.node-items))
          ≡ l.fn.text.items ++ node_boxes l.drawn.version (budgets l.drawn) l.depth l.fn.first.node l.fn.first.leaf (nodes_of l.node-items);
      nodes : l.at.node + node_count (nodes_of (drop l.node-index l.node-items)) ≡ l.fn.first.node + node_count (nodes_of l.node-items);
      leaves : l.at.leaf + leaf_count (nodes_of (drop l.node-index l.node-items)) ≡ l.fn.first.leaf + leaf_count (nodes_of l.node-items);
    }
