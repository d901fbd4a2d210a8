use Rattle.std.proofs.Common.{◌∙◌, ◌+◌, ap, arith, refl}
use Rattle.gq_model.specs.machine.Accounts.{leaf_count}
use Rattle.gq_model.specs.rules.Accept.{budgets}
use Rattle.gq_scenario.specs.Sizes.{node_count}
use Rattle.gq_scenario.proofs.Nodes_counted.{count_here}
use Rattle.gq_scenario.proofs.Preorder_leaves.{count_leaf, count_init}
use Rattle.gq_scenario.proofs.Tree_counts.{below_smaller}
use Rattle.gq_views.proofs.Printed_boxes.{boxed_init, boxed_leaf, cluster_put, one_node, same_label}
use Rattle.gq_views.proofs.graph.+boxes.Goals as goal
use Rattle.gq_views.proofs.graph.+boxes.Goals.{push_boxes-in-Leaf+in_ok-push_leaf-in-Leaf, push_boxes-in-Init+in_ok-at-in-Init}

pub push_cluster-returns-clause-lines : goal.push_cluster-returns-clause-lines
push_cluster-returns-clause-lines t c =
    let same = same_label c.args.children.now _ c.args.drawn.now.version c.args.name.now c.args.quantum c.version.ensures in
    cluster_put c.args.depth (c.args.depth + 1) c.args.at.node refl _ _ _ _ c.args.text.now.items c.push_box.new.text.items c.push_label.new.text.items
    c.push_point.new.text.items c.push_boxes.new.text.items c.push_line.new.text.items same c.in_ok-push_box.ensures c.in_ok-push_label.ensures
    c.in_ok-push_point.ensures c.in_ok-next.ensures.lines c.in_ok-push_line.ensures

pub push_boxes-push_cluster-requires : goal.push_boxes-push_cluster-requires
push_boxes-push_cluster-requires t c =
    let items = c.nodes-node-items.result.now in
    let l = c.loop-node in
    let init = c.in-Init.init in
    let children = c.in-Init.children in
    let smaller = below_smaller items l.node-index c.node-item.result init children c.loop-node-test.true c.node-item.is c.in-Init.is in
    let here = count_here items l.node-index c.node-item.result init children c.loop-node-test.true c.node-item.is c.in-Init.is in
    let leaves = count_init items l.node-index c.node-item.result c.loop-node-test.true c.node-item.is init children c.in-Init.is in
    let all = ap node_count c.nodes-node-items.ensures in
    let counts = ap leaf_count c.nodes-node-items.ensures in (
      omega (arith, c.decreases, smaller, all),
      (
        omega (arith, c.requires.deep, smaller, all),
        (omega (arith, l.invariant.nodes, here, all, c.requires.nodes), omega (arith, l.invariant.leaves, leaves, counts, c.requires.leaves)),
      ),
    )

pub push_boxes-overflow_add-at : goal.push_boxes-overflow_add-at
push_boxes-overflow_add-at t c = omega (arith, c.loop-node.invariant.nodes, ap node_count c.nodes-node-items.ensures, c.requires.nodes)

pub push_boxes-loop-node-preserved : goal.push_boxes-loop-node-preserved
push_boxes-loop-node-preserved t c =
    let items = c.nodes-node-items.result.now in
    let l = c.loop-node in
    let i = l.node-index in
    let node = c.node-item.result in
    let within = c.loop-node-test.true in
    let at = c.node-item.is in
    let s = c.args.drawn.now in
    let d = c.args.depth in
    elim c.match-node.branch [
      | push_boxes-in-Leaf+in_ok-push_leaf-in-Leaf w ↦
          let leaf = w.in-Leaf.leaf in
          let put = ap (λ v. v.items) w.text-is ∙ w.in_ok-push_leaf-in-Leaf.ensures in
          let place = ap (λ p. p.node) w.at-is in
          let number = ap (λ p. p.leaf) w.at-is in
          record {
            reported = boxed_leaf s.version (budgets s) d items i node within at leaf w.in-Leaf.is l.at.node l.at.leaf c.match-node.at.node c.match-node.at.leaf
                place
                number l.text.items c.match-node.text.items _ put l.invariant.reported;
            nodes = omega (arith, l.invariant.nodes, one_node s.version (budgets s) d items i node within at leaf w.in-Leaf.is, place);
            leaves = omega (arith, l.invariant.leaves, count_leaf items i node within at leaf w.in-Leaf.is, number);
          }
      | push_boxes-in-Init+in_ok-at-in-Init w ↦
          let init = w.in-Init.init in
          let children = w.in-Init.children in
          let put = ap (λ v. v.items) w.text-is ∙ w.in_ok-at-in-Init.ensures.lines in
          let place = ap (λ p. p.node) w.at-is ∙ w.in_ok-at-in-Init.ensures.node in
          let number = ap (λ p. p.leaf) w.at-is ∙ w.in_ok-at-in-Init.ensures.leaf in
          record {
            reported = boxed_init s.version (budgets s) d items i node within at init children w.in-Init.is l.at.node l.at.leaf c.match-node.at.node
                c.match-node.at.leaf place number l.text.items c.match-node.text.items _ _ _ (w.as_bytes-name.ensures.bytes ∙ w.name.ensures) w.quantum.ensures
                put l.invariant.reported;
            nodes = omega (arith, l.invariant.nodes, count_here items i node init children within at w.in-Init.is, place);
            leaves = omega (arith, l.invariant.leaves, count_init items i node within at init children w.in-Init.is, number);
          }
    ]
