use Rattle.std.proofs.Common.{◌≡◌, drop}
use Rattle.gq_model.specs.rules.Resolve.{first_exceeding}
use Rattle.gq_resolve.specs.Resolve_faults.{resource_of}
use Rattle.gq_scenario.specs.Sizes.{node_count}
use Rattle.gq_scenario.specs.Component_trees.{nodes_of}
use Rattle.gq_resolve.proofs.quanta.+fit_below.Given as goal

abbrev pub decreases-fit_below : goal.decreases-fit_below
decreases-fit_below l = node_count l.nodes.now

abbrev pub invariant-loop-node : goal.invariant-loop-node
invariant-loop-node l = first_exceeding (resource_of l.resource) (nodes_of l.node-items)
    ≡ first_exceeding (resource_of l.resource) (nodes_of (drop l.node-index l.node-items))
