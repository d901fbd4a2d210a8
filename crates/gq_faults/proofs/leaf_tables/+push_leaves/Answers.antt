use Rattle.std.proofs.Common.{ap, arith}
use Rattle.gq_scenario.specs.Sizes.{node_count}
use Rattle.gq_scenario.proofs.Tree_counts.{below_smaller}
use Rattle.gq_faults.proofs.leaf_tables.+push_leaves.Goals as goal

pub push_leaves-requires : goal.push_leaves-requires
push_leaves-requires t c =
    let smaller = below_smaller c.nodes-node-items.result.now c.loop-index.index c.node-item.result c.in-Init.field-0 c.in-Init.children
    c.loop-index-test.true c.node-item.is c.in-Init.is in
    omega (arith, c.decreases, smaller, ap node_count c.nodes-node-items.ensures)
