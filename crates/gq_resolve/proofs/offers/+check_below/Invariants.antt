use Rattle.std.proofs.Common.{◌≡◌, drop}
use Rattle.gq_model.specs.rules.Resolve.{first_bad_offer}
use Rattle.gq_scenario.specs.Sizes.{node_count}
use Rattle.gq_scenario.specs.Component_trees.{nodes_of}
use Rattle.gq_resolve.proofs.offers.+check_below.Given as goal

abbrev pub decreases-check_below : goal.decreases-check_below
decreases-check_below l = node_count l.nodes.now

abbrev pub invariant-loop-node : goal.invariant-loop-node
invariant-loop-node l = first_bad_offer l.interfaces (nodes_of l.node-items) ≡ first_bad_offer l.interfaces (nodes_of (drop l.node-index l.node-items))
