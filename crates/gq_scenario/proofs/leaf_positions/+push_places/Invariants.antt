use Rattle.std.proofs.Common.{◌≡◌, ◌+◌, ◌++◌, drop}
use Rattle.gq_scenario.specs.Sizes.{node_count, leaf_places}
use Rattle.gq_scenario.specs.Component_trees.{nodes_of}
use Rattle.gq_scenario.proofs.leaf_positions.+push_places.Given as goal

abbrev pub decreases-push_places : goal.decreases-push_places
decreases-push_places l = node_count l.nodes.now

-- the places so far, with those that are left, are all
abbrev pub invariant-loop-node : goal.invariant-loop-node
invariant-loop-node l =
    record {
      next : l.place + node_count (nodes_of (drop l.node-index l.node-items)) ≡ l.first + node_count (nodes_of l.node-items);
      made : l.places.items ++ leaf_places l.place (nodes_of (drop l.node-index l.node-items)) ≡ l.fn.places.items
          ++ leaf_places l.first (nodes_of l.node-items);
    }
