use Rattle.std.proofs.Common.{◌≡◌, ◌+◌, ◌*◌, ◌++◌, ◌∷◌, [], drop}
use Rattle.gq_model.specs.machine.Accounts.{leaf_count}
use Rattle.gq_model.specs.machine.Scenario.{System}
use Rattle.gq_scenario.specs.Sizes.{node_count}
use Rattle.gq_scenario.specs.Component_trees.{nodes_of}
use Rattle.gq_sizes.specs.Least_numbers.{nodes_row}
use Rattle.gq_sizes.specs.Saturated_tables.{AreLeast}
use Rattle.gq_sizes.proofs.leasts.+nodes.Given as goal

abbrev pub decreases-push_nodes : goal.decreases-push_nodes
decreases-push_nodes l = 3 * node_count l.nodes.now + 1

abbrev pub decreases-push_node : goal.decreases-push_node
decreases-push_node l = 3 * node_count (nodes_of (l.node.now ∷ []))

-- the numbers so far, with those of the nodes that are left, are all; and the leaves are counted
abbrev pub invariant-push_nodes-loop-node : goal.invariant-push_nodes-loop-node
invariant-push_nodes-loop-node l =
    record {
      least :
          (all : System) → AreLeast all l.leaves.least.now l.leaves.endless.now →
          l.least.items ++ nodes_row all l.next (nodes_of (drop l.node-index l.node-items))
          ≡ l.fn.least.items ++ nodes_row all l.first (nodes_of l.node-items);
      leaves : l.next + leaf_count (nodes_of (drop l.node-index l.node-items)) ≡ l.first + leaf_count (nodes_of l.node-items);
    }
