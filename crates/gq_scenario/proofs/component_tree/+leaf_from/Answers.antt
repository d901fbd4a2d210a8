use Rattle.std.proofs.Common.{◌≡◌, ◌+◌, drop, ap, sym, ◌∙◌, arith}
use Rattle.std.specs.Prelude.{slice_get}
use Rattle.gq_scenario.specs.Sizes.{node_count, leaves_in}
use Rattle.gq_scenario.specs.Component_trees.{nodes_of}
use Rattle.gq_scenario.proofs.Tree_counts.{below_smaller}
use Rattle.gq_scenario.proofs.Preorder_leaves.{next_leaf, leaf_below, leaf_after, count_leaf, count_init}
use Rattle.gq_scenario.proofs.component_tree.+leaf_from.Goals.{in-Leaf+else-left-eq0, in-Init+in-Err}
use Rattle.gq_scenario.proofs.component_tree.+leaf_from.Goals as goal

pub leaf_from-requires : goal.leaf_from-requires
leaf_from-requires t c =
    let smaller = below_smaller c.nodes-node-items.result.now c.loop-node.node-index c.node-item.result c.in-Init.field-0 c.in-Init.children
    c.loop-node-test.true c.node-item.is c.in-Init.is in
    (omega (arith, c.decreases, smaller, ap node_count c.nodes-node-items.ensures), tt)

pub returns-in-Ok-clause-found : goal.returns-in-Ok-clause-found
returns-in-Ok-clause-found t c =
    let found = leaf_below c.nodes-node-items.result.now c.loop-node.node-index c.node-item.result c.loop-node-test.true c.node-item.is c.in-Init.field-0
    c.in-Init.children c.loop-node.left c.in-Ok.leaf.now c.in-Init.is c.in-Ok.ensures.found in
    ap (λ nodes. slice_get (leaves_in nodes) c.args.place) (sym c.nodes-node-items.ensures) ∙ (c.loop-node.invariant.same ∙ found)

pub loop-node-preserved : goal.loop-node-preserved
loop-node-preserved t c =
    let l = c.loop-node in
    let items = c.nodes-node-items.result.now in
    let node = c.node-item.result in
    elim c.match-node.branch [
      | in-Leaf+else-left-eq0 w ↦
          let fewer = count_leaf items l.node-index node c.loop-node-test.true c.node-item.is w.in-Leaf.leaf w.in-Leaf.is in
          let one : l.left ≡ c.match-node.left + 1 = omega (arith, w.left-is, w.if-left-eq0.false) in
          let next = next_leaf items l.node-index node c.loop-node-test.true c.node-item.is w.in-Leaf.leaf c.match-node.left w.in-Leaf.is in
          record {
            left = omega (arith, l.invariant.left, fewer, one);
            same = l.invariant.same ∙ (ap (slice_get (leaves_in (nodes_of (drop l.node-index items)))) one ∙ next);
          }
      | in-Init+in-Err w ↦
          let fewer = count_init items l.node-index node c.loop-node-test.true c.node-item.is w.in-Init.field-0 w.in-Init.children w.in-Init.is in
          let past = rw (← w.left-is) at w.in-Err.ensures.left in
          let after = leaf_after items l.node-index node c.loop-node-test.true c.node-item.is w.in-Init.field-0 w.in-Init.children l.left c.match-node.left
          w.in-Init.is past in
          record { left = omega (arith, l.invariant.left, fewer, past); same = l.invariant.same ∙ after }
    ]
