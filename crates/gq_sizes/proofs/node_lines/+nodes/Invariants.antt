use Rattle.std.proofs.Common.{◌≡◌, ◌+◌, ◌*◌, ◌++◌, ◌∷◌, [], drop}
use Rattle.gq_model.specs.machine.Accounts.{leaf_count}
use Rattle.gq_model.specs.machine.Scenario.{System}
use Rattle.gq_scenario.specs.Sizes.{node_count}
use Rattle.gq_scenario.specs.Component_trees.{nodes_of, version_number}
use Rattle.gq_sizes.specs.Saturated_tables.{AreLeast}
use Rattle.gq_sizes.specs.internal.Printed_sizes.{node_lines}
use Rattle.gq_sizes.proofs.node_lines.+nodes.Given as goal

abbrev pub decreases-push_nodes : goal.decreases-push_nodes
decreases-push_nodes l = 3 * node_count l.nodes.now + 1

abbrev pub decreases-push_below : goal.decreases-push_below
decreases-push_below l = 3 * node_count (nodes_of (l.node.now ∷ []))

abbrev pub decreases-push_init : goal.decreases-push_init
decreases-push_init l = 3 * node_count l.children.now + 2

-- the lines so far, with those of the nodes that are left, are all; and the numbers are those of the leaves
abbrev pub invariant-push_nodes-loop-node : goal.invariant-push_nodes-loop-node
invariant-push_nodes-loop-node l =
    record {
      lines :
          (all : System) → AreLeast all l.leaves.least.now l.leaves.endless.now →
          l.text.items ++ node_lines (version_number l.version) all l.label l.next (nodes_of (drop l.node-index l.node-items))
          ≡ l.fn.text.items ++ node_lines (version_number l.version) all l.label l.first (nodes_of l.node-items);
      leaves : l.next + leaf_count (nodes_of (drop l.node-index l.node-items)) ≡ l.first + leaf_count (nodes_of l.node-items);
    }
