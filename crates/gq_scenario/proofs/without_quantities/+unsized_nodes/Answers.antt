use Rattle.std.proofs.Common.{◌≤◌, length, ap, arith, ◌∙◌}
use Rattle.gq_scenario.specs.Sizes.{node_count}
use Rattle.gq_scenario.specs.Without_quantities.{without_quanta}
use Rattle.gq_scenario.proofs.Scenarios_without_quantities.{all_emptied}
use Rattle.gq_scenario.proofs.Tree_counts.{below_smaller}
use Rattle.gq_scenario.proofs.without_quantities.+unsized_nodes.Goals as goal

pub unsized_nodes-requires : goal.unsized_nodes-requires
unsized_nodes-requires t c =
    let smaller = below_smaller c.nodes-node-items.result.now c.loop-node.node-index c.node-item.result c.in-Init.init c.in-Init.children
    c.loop-node-test.true c.node-item.is c.in-Init.is in
    omega (arith, c.decreases, smaller, ap node_count c.nodes-node-items.ensures)

-- all are copied
pub returns : goal.returns
returns t c =
    let all : length c.nodes-node-items.result.now ≤ c.loop-node.node-index = omega arith in
    c.new.ensures ∙ (all_emptied c.nodes-node-items.result.now c.loop-node.copied.items c.loop-node.node-index c.loop-node.invariant all
    ∙ ap without_quanta c.nodes-node-items.ensures)
