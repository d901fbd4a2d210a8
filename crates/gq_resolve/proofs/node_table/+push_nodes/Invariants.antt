use Rattle.std.proofs.Common.{◌≡◌, ◌+◌, ◌*◌, ◌++◌, ◌≤◌, drop, length}
use Rattle.gq_model.specs.machine.Accounts.{leaf_count}
use Rattle.gq_scenario.specs.Sizes.{node_count, depth}
use Rattle.gq_scenario.specs.Component_trees.{nodes_of}
use Rattle.gq_resolve.specs.NodeTables.{rows_of}
use Rattle.gq_resolve.proofs.node_table.+push_nodes.Given as goal

abbrev pub decreases-push_nodes : goal.decreases-push_nodes
decreases-push_nodes l = node_count l.nodes.now

-- the nodes so far, with those that are left, are all
abbrev pub invariant-loop-node : goal.invariant-loop-node
invariant-loop-node l =
    record {
      made :
          l.entries.items ++ rows_of l.above.items l.parent (length l.entries.items) l.leaf (nodes_of (drop l.node-index l.node-items))
          ≡ l.fn.entries.items ++ rows_of l.above.items l.parent (length l.fn.entries.items) l.first (nodes_of l.node-items);
      nodes : length l.entries.items + node_count (nodes_of (drop l.node-index l.node-items)) ≡ length l.fn.entries.items + node_count (nodes_of l.node-items);
      leaves : l.leaf + leaf_count (nodes_of (drop l.node-index l.node-items)) ≡ l.first + leaf_count (nodes_of l.node-items);
      room : length l.above.items + 20 * depth (nodes_of (drop l.node-index l.node-items)) ≤ 96;
    }
