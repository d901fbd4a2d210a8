use Rattle.std.proofs.Common.{◌≡◌, nat_le, drop}
use Rattle.gq_model.specs.rules.Resolve.{handed_out}
use Rattle.gq_resolve.specs.Resolve_faults.{resource_of}
use Rattle.gq_scenario.specs.Component_trees.{nodes_of}
use Rattle.gq_resolve.proofs.quanta.is_enough.Given as goal

abbrev pub invariant-loop-node : goal.invariant-loop-node
invariant-loop-node l =
    nat_le (handed_out (resource_of l.resource) (nodes_of l.node-items)) l.quantum
    ≡ nat_le (handed_out (resource_of l.resource) (nodes_of (drop l.node-index l.node-items))) l.left
