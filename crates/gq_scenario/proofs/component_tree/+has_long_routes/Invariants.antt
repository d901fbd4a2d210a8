use Rattle.std.proofs.Common.{◌≡◌, drop}
use Rattle.gq_scenario.specs.Document.{has_long_routes}
use Rattle.gq_scenario.specs.Sizes.{node_count}
use Rattle.gq_scenario.specs.Component_trees.{nodes_of}
use Rattle.gq_scenario.proofs.component_tree.+has_long_routes.Given as goal

abbrev pub decreases-has_long_routes : goal.decreases-has_long_routes
decreases-has_long_routes l = node_count l.nodes.now

abbrev pub invariant-loop-node : goal.invariant-loop-node
invariant-loop-node l = has_long_routes (nodes_of (drop l.node-index l.node-items)) ≡ has_long_routes (nodes_of l.node-items)
