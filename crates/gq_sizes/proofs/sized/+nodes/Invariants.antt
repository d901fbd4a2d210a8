use Rattle.std.proofs.Common.{◌+◌, ◌*◌, ◌∷◌, []}
use Rattle.gq_scenario.specs.Sizes.{node_count}
use Rattle.gq_scenario.specs.Component_trees.{nodes_of}
use Rattle.gq_sizes.proofs.sized.+nodes.Given as goal

abbrev pub decreases-nodes_sized : goal.decreases-nodes_sized
decreases-nodes_sized l = 3 * node_count (nodes_of l.nodes.now) + 1

abbrev pub decreases-node_sized : goal.decreases-node_sized
decreases-node_sized l = 3 * node_count (nodes_of (l.node.now ∷ []))
