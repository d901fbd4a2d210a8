use Rattle.std.proofs.Common.{◌≡◌, ◌+◌, ◌≤◌, drop}
use Rattle.gq_scenario.specs.Document.{init_count}
use Rattle.gq_scenario.specs.Sizes.{node_count}
use Rattle.gq_scenario.specs.Component_trees.{nodes_of}
use Rattle.gq_scenario.proofs.component_tree.+count_inits.Given as goal

abbrev pub decreases-count_inits : goal.decreases-count_inits
decreases-count_inits l = node_count l.nodes.now

abbrev pub invariant-loop-node : goal.invariant-loop-node
invariant-loop-node l =
    record {
      total : l.count + init_count (nodes_of (drop l.node-index l.node-items)) ≡ l.before + init_count (nodes_of l.node-items);
      few : l.count ≤ 64;
    }
