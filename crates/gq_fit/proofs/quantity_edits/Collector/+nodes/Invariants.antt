use Rattle.std.proofs.Common.{◌+◌, ◌*◌, ◌∷◌, []}
use Rattle.gq_scenario.specs.Sizes.{node_count}
use Rattle.gq_scenario.specs.Component_trees.{nodes_of}
use Rattle.gq_fit.proofs.quantity_edits.Collector.+nodes.Given as goal

abbrev pub decreases-nodes : goal.decreases-nodes
decreases-nodes l = 2 * node_count (nodes_of l.nodes.now) + 1

abbrev pub decreases-node : goal.decreases-node
decreases-node l = 2 * node_count (nodes_of (l.node.now ∷ []))
