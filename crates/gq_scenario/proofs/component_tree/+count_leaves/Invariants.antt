use Rattle.std.proofs.Common.{◌≡◌, ◌+◌, ◌≤◌, drop}
use Rattle.gq_model.specs.machine.Accounts.{leaf_count}
use Rattle.gq_scenario.specs.Sizes.{node_count}
use Rattle.gq_scenario.specs.Component_trees.{nodes_of}
use Rattle.gq_scenario.proofs.component_tree.+count_leaves.Given as goal

abbrev pub decreases-count_leaves : goal.decreases-count_leaves
decreases-count_leaves l = node_count l.nodes.now

abbrev pub invariant-loop-node : goal.invariant-loop-node
invariant-loop-node l =
    record {
      total : l.count + leaf_count (nodes_of (drop l.node-index l.node-items)) ≡ l.before + leaf_count (nodes_of l.node-items);
      few : l.count ≤ 64;
    }
