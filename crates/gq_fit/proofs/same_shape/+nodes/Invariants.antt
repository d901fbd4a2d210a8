use Rattle.std.proofs.Common.{◌+◌, ◌*◌, ◌∷◌, []}
use Rattle.gq_scenario.specs.Sizes.{node_count}
use Rattle.gq_scenario.specs.Component_trees.{nodes_of}
use Rattle.gq_fit.proofs.same_shape.+nodes.Given as goal

abbrev pub decreases-same_nodes : goal.decreases-same_nodes
decreases-same_nodes l = 2 * node_count (nodes_of l.a.now) + 1

abbrev pub decreases-same_node : goal.decreases-same_node
decreases-same_node l = 2 * node_count (nodes_of (l.a.now ∷ []))
