use Rattle.std.proofs.Common.{◌≡◌, ◌+◌, ◌*◌, ◌||◌, ◌∷◌, [], drop}
use Rattle.gq_model.specs.machine.Accounts.{leaf_count}
use Rattle.gq_model.specs.machine.Scenario.{System}
use Rattle.gq_scenario.specs.Sizes.{node_count}
use Rattle.gq_scenario.specs.Component_trees.{nodes_of}
use Rattle.gq_sizes.specs.Endless.{children_endless}
use Rattle.gq_sizes.specs.Passing.{endless_from}
use Rattle.gq_sizes.proofs.unending.+nodes.Given as goal

abbrev pub decreases-of_children : goal.decreases-of_children
decreases-of_children l = 2 * node_count l.nodes.now + 1

abbrev pub decreases-of_node : goal.decreases-of_node
decreases-of_node l = 2 * node_count (nodes_of (l.node.now ∷ []))

-- what was found so far, with what is found of the nodes that are left, is that of all; and the numbers are those of the leaves
abbrev pub invariant-of_children-loop-node : goal.invariant-of_children-loop-node
invariant-of_children-loop-node l =
    record {
      found :
          (all : System) → l.endless ≡ endless_from all 0 all.components →
          (l.found || children_endless all l.next (nodes_of (drop l.node-index l.node-items))) ≡ children_endless all l.first (nodes_of l.node-items);
      leaves : l.next + leaf_count (nodes_of (drop l.node-index l.node-items)) ≡ l.first + leaf_count (nodes_of l.node-items);
    }
