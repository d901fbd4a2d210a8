use Rattle.std.proofs.Common.{◌≡◌, ◌+◌, ◌*◌, ◌^◌, ◌<◌, ◌∷◌, [], drop}
use Rattle.gq_model.specs.machine.Accounts.{leaf_count}
use Rattle.gq_model.specs.machine.Amounts.{Resource, part}
use Rattle.gq_model.specs.machine.Scenario.{System}
use Rattle.gq_scenario.specs.Sizes.{node_count}
use Rattle.gq_scenario.specs.Component_trees.{nodes_of}
use Rattle.gq_verify.specs.Saturated_numbers.{saturated}
use Rattle.gq_sizes.specs.Size.{children_least}
use Rattle.gq_sizes.specs.Saturated_tables.{leasts_from}
use Rattle.gq_sizes.proofs.leaf_needs.+nodes.Given as goal

abbrev pub decreases-least_of_children : goal.decreases-least_of_children
decreases-least_of_children l = 2 * node_count l.nodes.now + 1

abbrev pub decreases-least_of_node : goal.decreases-least_of_node
decreases-least_of_node l = 2 * node_count (nodes_of (l.node.now ∷ []))

-- the sum so far, with what is needed for the nodes that are left, is that of all; and the numbers are those of the leaves
abbrev pub invariant-least_of_children-loop-node : goal.invariant-least_of_children-loop-node
invariant-least_of_children-loop-node l =
    record {
      needed :
          (r : Resource) (all : System) → l.least ≡ leasts_from all 0 all.components →
          saturated (part r l.sum + children_least r all l.next (nodes_of (drop l.node-index l.node-items)))
          ≡ saturated (children_least r all l.first (nodes_of l.node-items));
      small : l.sum.ram < 2 ^ 64;
      few : l.sum.caps < 2 ^ 64;
      leaves : l.next + leaf_count (nodes_of (drop l.node-index l.node-items)) ≡ l.first + leaf_count (nodes_of l.node-items);
    }
