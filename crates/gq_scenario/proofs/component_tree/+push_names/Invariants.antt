use Rattle.std.proofs.Common.{◌≡◌, ◌++◌, drop}
use Rattle.gq_scenario.specs.Document.{names_of}
use Rattle.gq_scenario.specs.Sizes.{node_count}
use Rattle.gq_scenario.specs.Component_trees.{nodes_of}
use Rattle.gq_scenario.proofs.component_tree.+push_names.Given as goal

abbrev pub decreases-push_names : goal.decreases-push_names
decreases-push_names l = node_count l.nodes.now

abbrev pub invariant-loop-node : goal.invariant-loop-node
invariant-loop-node l = l.names.items ++ names_of (nodes_of (drop l.node-index l.node-items)) ≡ l.fn.names.items ++ names_of (nodes_of l.node-items)
