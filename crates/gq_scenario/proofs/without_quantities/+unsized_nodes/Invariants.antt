use Rattle.std.proofs.Common.{◌≡◌, take}
use Rattle.std.specs.Prelude.{map}
use Rattle.gq_scenario.specs.Sizes.{node_count}
use Rattle.gq_scenario.proofs.Scenarios_without_quantities.{without_quantum}
use Rattle.gq_scenario.proofs.without_quantities.+unsized_nodes.Given as goal

abbrev pub decreases-unsized_nodes : goal.decreases-unsized_nodes
decreases-unsized_nodes l = node_count l.nodes.now

-- those so far are copied without their quanta
abbrev pub invariant-loop-node : goal.invariant-loop-node
invariant-loop-node l = l.copied.items ≡ map without_quantum (take l.node-index l.node-items)
