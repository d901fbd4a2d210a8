use Rattle.std.proofs.Common.{◌∙◌, ap, arith}
use Rattle.gq_model.specs.machine.Accounts.{leaf_count}
use Rattle.gq_model.specs.machine.Amounts.{Amount}
use Rattle.gq_scenario.specs.Sizes.{node_count}
use Rattle.gq_sizes.specs.internal.Printed_sizes.{init_least_printed}
use Rattle.gq_sizes.proofs.Least_leaves.{amounts_all, amounts_put, count_here, node_small}
use Rattle.gq_sizes.proofs.leaf_needs.+nodes.Goals as goal

pub least_of_children-least_of_node-after-requires : goal.least_of_children-least_of_node-after-requires
least_of_children-least_of_node-after-requires t c =
    let l = c.loop-node in
    let items = c.nodes-node-items.result.now in
    let node = c.node-item.result in
    let small = node_small items l.node-index node c.loop-node-test.true c.node-item.is in
    let here = count_here items l.node-index node c.loop-node-test.true c.node-item.is in
    let nodes = ap node_count c.nodes-node-items.ensures in
    let leaves = ap leaf_count c.nodes-node-items.ensures in
    (omega (arith, c.decreases, small, nodes), omega (arith, c.requires, here, leaves, l.invariant.leaves))

pub least_of_children-loop-node-preserved : goal.least_of_children-loop-node-preserved
least_of_children-loop-node-preserved t c =
    let l = c.loop-node in
    let items = c.nodes-node-items.result.now in
    let node = c.node-item.result in
    let within = c.loop-node-test.true in
    let is = c.node-item.is in
    let found = c.least_of_node-after in
    let sum = c.plus-sum.ensures in
    record {
      needed = λ r all e. amounts_put r all items l.node-index node within is l.next found.result.1 _ l.sum found.result.0 c.plus-sum.result
          found.ensures.next (found.ensures.needed all e) sum (l.invariant.needed r all e);
      small = omega (arith, ap (λ (a : Amount). a.ram) sum);
      few = omega (arith, ap (λ (a : Amount). a.caps) sum);
      leaves = omega (arith, l.invariant.leaves, found.ensures.next, count_here items l.node-index node within is);
    }

pub least_of_children-returns-clause-needed : goal.least_of_children-returns-clause-needed
least_of_children-returns-clause-needed t c all e =
    let l = c.loop-node in
    amounts_all all c.nodes-node-items.result.now l.node-index c.args.first l.next l.sum c.loop-node-test.false l.invariant.small l.invariant.few
    (λ r. l.invariant.needed r all e)
    ∙ ap (init_least_printed all c.args.first) c.nodes-node-items.ensures
