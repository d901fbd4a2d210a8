use Rattle.std.proofs.Common.{◌≡◌, drop}
use Rattle.gq_model.specs.machine.Routes.{child_named}
use Rattle.gq_scenario.specs.Sizes.{node_count}
use Rattle.gq_scenario.specs.Component_trees.{nodes_of}
use Rattle.gq_resolve.proofs.routing.+child_named.Given as goal

abbrev pub decreases-child_named : goal.decreases-child_named
decreases-child_named l = node_count l.siblings.now

abbrev pub invariant-loop-node : goal.invariant-loop-node
invariant-loop-node l = child_named l.name l.service (nodes_of l.node-items) ≡ child_named l.name l.service (nodes_of (drop l.node-index l.node-items))
