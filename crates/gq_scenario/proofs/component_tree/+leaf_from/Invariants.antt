use Rattle.std.proofs.Common.{◌≡◌, ◌+◌, drop}
use Rattle.std.specs.Prelude.{slice_get}
use Rattle.gq_model.specs.machine.Accounts.{leaf_count}
use Rattle.gq_scenario.specs.Sizes.{node_count, leaves_in}
use Rattle.gq_scenario.specs.Component_trees.{nodes_of}
use Rattle.gq_scenario.proofs.component_tree.+leaf_from.Given as goal

abbrev pub decreases-leaf_from : goal.decreases-leaf_from
decreases-leaf_from l = node_count l.nodes.now

abbrev pub invariant-loop-node : goal.invariant-loop-node
invariant-loop-node l =
    record {
      left : l.left + leaf_count (nodes_of l.node-items) ≡ l.place + leaf_count (nodes_of (drop l.node-index l.node-items));
      same : slice_get (leaves_in (nodes_of l.node-items)) l.place ≡ slice_get (leaves_in (nodes_of (drop l.node-index l.node-items))) l.left;
    }
