use Rattle.std.proofs.Common.{◌≡◌, drop}
use Rattle.gq_model.specs.rules.Resolve.{child_serves}
use Rattle.gq_scenario.specs.Component_trees.{nodes_of}
use Rattle.gq_resolve.proofs.offers.child_serves.Given as goal

abbrev pub invariant-loop-node : goal.invariant-loop-node
invariant-loop-node l = child_serves l.name l.service (nodes_of l.node-items) ≡ child_serves l.name l.service (nodes_of (drop l.node-index l.node-items))
