use Rattle.std.proofs.Common.{◌∙◌, ◌++◌, ap, arith}
use Rattle.gq_model.specs.machine.Accounts.{leaf_count}
use Rattle.gq_model.specs.machine.Scenario.{system}
use Rattle.gq_model.specs.rules.Accept.{budgets}
use Rattle.gq_scenario.specs.Sizes.{node_count}
use Rattle.gq_scenario.proofs.Preorder_leaves.{count_leaf, count_init}
use Rattle.gq_scenario.proofs.Tree_counts.{below_smaller}
use Rattle.gq_views.specs.Tree.{init_lines}
use Rattle.gq_views.proofs.Printed_view_nodes.{printed_init, printed_leaf}
use Rattle.gq_views.proofs.tree.+push_nodes.Goals as goal
use Rattle.gq_views.proofs.tree.+push_nodes.Goals.{in-Leaf+in_ok-push_leaf-in-Leaf, in-Init+in_ok-push_init_lines-in-Init+in_ok-place-in-Init}

pub push_nodes-requires : goal.push_nodes-requires
push_nodes-requires t c =
    let items = c.nodes-node-items.result.now in
    let l = c.loop-node in
    let init = c.in-Init.init in
    let children = c.in-Init.children in
    let smaller = below_smaller items l.node-index c.node-item.result init children c.loop-node-test.true c.node-item.is c.in-Init.is in
    let leaves = count_init items l.node-index c.node-item.result c.loop-node-test.true c.node-item.is init children c.in-Init.is in
    let all = ap node_count c.nodes-node-items.ensures in
    let counts = ap leaf_count c.nodes-node-items.ensures in (
      omega (arith, c.decreases, smaller, all),
      (omega (arith, c.requires.deep, smaller, all), omega (arith, l.invariant.leaves, leaves, counts, c.requires.leaves)),
    )

pub loop-node-preserved : goal.loop-node-preserved
loop-node-preserved t c =
    let items = c.nodes-node-items.result.now in
    let l = c.loop-node in
    let i = l.node-index in
    let node = c.node-item.result in
    let within = c.loop-node-test.true in
    let at = c.node-item.is in
    let s = c.args.drawn.now in
    let d = c.args.depth in
    elim c.match-node.branch [
      | in-Leaf+in_ok-push_leaf-in-Leaf w ↦
          let leaf = w.in-Leaf.leaf in
          let put = ap (λ v. v.items) w.text-is ∙ w.in_ok-push_leaf-in-Leaf.ensures in
          record {
            reported = printed_leaf s.version (system s) (budgets s) d items i node within at leaf w.in-Leaf.is l.place c.match-node.place w.place-is
                l.text.items
                c.match-node.text.items _ put l.invariant.reported;
            leaves = omega (arith, l.invariant.leaves, count_leaf items i node within at leaf w.in-Leaf.is, w.place-is);
          }
      | in-Init+in_ok-push_init_lines-in-Init+in_ok-place-in-Init w ↦
          let init = w.in-Init.init in
          let children = w.in-Init.children in
          let put = w.in_ok-push_init_lines-in-Init.ensures ∙ ap (λ v. l.text.items ++ init_lines v d init children) w.version.ensures in
          let below = ap (λ v. v.items) w.text-is ∙ w.in_ok-place-in-Init.ensures.lines in
          let next = w.place-is ∙ w.in_ok-place-in-Init.ensures.next in
          record {
            reported = printed_init s.version (system s) (budgets s) d items i node within at init children w.in-Init.is l.place c.match-node.place next
                l.text.items
                w.push_init_lines.new.text.items c.match-node.text.items _ put below l.invariant.reported;
            leaves = omega (arith, l.invariant.leaves, count_init items i node within at init children w.in-Init.is, next);
          }
    ]
