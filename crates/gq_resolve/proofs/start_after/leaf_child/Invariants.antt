use Rattle.std.proofs.Common.{◌≡◌, drop}
use Rattle.gq_model.specs.rules.Resolve.{leaf_child}
use Rattle.gq_scenario.specs.Component_trees.{nodes_of}
use Rattle.gq_resolve.proofs.start_after.leaf_child.Given as goal

abbrev pub invariant-loop-node : goal.invariant-loop-node
invariant-loop-node l = leaf_child l.name (nodes_of l.node-items) ≡ leaf_child l.name (nodes_of (drop l.node-index l.node-items))
