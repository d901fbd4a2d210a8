use Rattle.std.proofs.Common.{ap, arith}
use Rattle.gq_scenario.specs.Sizes.{node_count}
use Rattle.gq_scenario.proofs.Tree_counts.{below_smaller}
use Rattle.gq_scenario.proofs.component_tree.+has_long_routes.Goals as goal

pub has_long_routes-requires : goal.has_long_routes-requires
has_long_routes-requires t c =
    let smaller = below_smaller c.nodes-node-items.result.now c.loop-node.node-index c.node-item.result c.in-Init.init c.in-Init.children c.loop-node-test.true
    c.node-item.is c.in-Init.is in
    (omega (arith, c.decreases, smaller, ap node_count c.nodes-node-items.ensures), tt)
