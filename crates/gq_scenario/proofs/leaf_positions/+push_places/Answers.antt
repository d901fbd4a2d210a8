use Rattle.std.proofs.lemmas.Grind.{common_steps}
use Rattle.std.proofs.Common.{ap, arith}
use Rattle.gq_scenario.specs.Sizes.{node_count}
use Rattle.gq_scenario.proofs.Tree_counts.{below_smaller}
use Rattle.gq_scenario.proofs.Nodes_counted.{count_here}
use Rattle.gq_scenario.proofs.leaf_positions.+push_places.Goals as goal

pub push_places-requires : goal.push_places-requires
push_places-requires t c =
    let items = c.nodes-node-items.result.now in
    let l = c.loop-node in
    let smaller = below_smaller items l.node-index c.node-item.result c.in-Init._init c.in-Init.children c.loop-node-test.true c.node-item.is c.in-Init.is in
    let here = count_here items l.node-index c.node-item.result c.in-Init._init c.in-Init.children c.loop-node-test.true c.node-item.is c.in-Init.is in
    let all = ap node_count c.nodes-node-items.ensures in
    (omega (arith, c.decreases, smaller, all), omega (arith, l.invariant.next, here, all, c.requires))

pub loop-node-preserved : goal.loop-node-preserved
loop-node-preserved t c = grind (arith, common_steps)
