use Rattle.std.proofs.Common.{◌≡◌, ◌∙◌, length, length-append, ap, arith}
use Rattle.gq_model.specs.machine.Accounts.{leaf_count}
use Rattle.gq_model.specs.machine.Scenario.{below}
use Rattle.gq_resolve.specs.NodeTables.{rows_of}
use Rattle.gq_scenario.specs.Sizes.{node_count}
use Rattle.gq_scenario.proofs.Tree_counts.{below_smaller}
use Rattle.gq_scenario.proofs.Nodes_counted.{count_here}
use Rattle.gq_scenario.proofs.Preorder_leaves.{count_leaf, count_init}
use Rattle.gq_resolve.proofs.Node_table_rows.{one_longer, length-rows_of, room_leaf, room_init, nodes_leaf, made_leaf, made_init}
use Rattle.gq_resolve.proofs.node_table.+push_nodes.Goals as goal
use Rattle.gq_resolve.proofs.node_table.+push_nodes.Goals.{in-Leaf+in_ok-push-in-Leaf, in-Init+in_ok-push-in-Init+in_ok-leaf-in-Init}

pub push_nodes-requires : goal.push_nodes-requires
push_nodes-requires t c =
    let items = c.nodes-node-items.result.now in
    let l = c.loop-node in
    let init = c.in-Init.init in
    let children = c.in-Init.children in
    let smaller = below_smaller items l.node-index c.node-item.result init children c.loop-node-test.true c.node-item.is c.in-Init.is in
    let here = count_here items l.node-index c.node-item.result init children c.loop-node-test.true c.node-item.is c.in-Init.is in
    let leaves = count_init items l.node-index c.node-item.result c.loop-node-test.true c.node-item.is init children c.in-Init.is in
    let room = room_init items l.node-index c.node-item.result c.loop-node-test.true c.node-item.is
    (length c.args.above.now.items) init children c.in-Init.is l.invariant.room in
    let all = ap node_count c.nodes-node-items.ensures in
    let counts = ap leaf_count c.nodes-node-items.ensures in (
      omega (arith, c.decreases, smaller, all),
      (
        omega (arith, room.0, c.below-label.ensures.longer),
        (
          omega (
            arith,
            l.invariant.nodes,
            here,
            all,
            c.requires.few,
            one_longer c.push-in-Init.new.self.items l.entries.items _ c.in_ok-push-in-Init.ensures.items,
          ),
          omega (arith, l.invariant.leaves, leaves, counts, c.requires.leaves),
        ),
      ),
    )

pub loop-node-preserved : goal.loop-node-preserved
loop-node-preserved t c =
    let items = c.nodes-node-items.result.now in
    let l = c.loop-node in
    let i = l.node-index in
    let node = c.node-item.result in
    let within = c.loop-node-test.true in
    let at = c.node-item.is in
    let above = c.args.above.now.items in
    elim c.match-node.branch [
      | in-Leaf+in_ok-push-in-Leaf w ↦
          let leaf = w.in-Leaf.node in
          let put = ap (λ v. v.items) w.entries-is ∙ w.in_ok-push-in-Leaf.ensures.items in
          let room = room_leaf items i node within at (length above) leaf w.in-Leaf.is l.invariant.room in
          let counted = nodes_leaf items i node within at leaf w.in-Leaf.is in
          let leaves = count_leaf items i node within at leaf w.in-Leaf.is in
          record {
            made = made_leaf items i node within at above c.args.parent l.leaf l.entries.items _ l.invariant.made leaf w.in-Leaf.is c.match-node.entries.items
                w.below.result.items w.quantum.result w.new.result c.match-node.leaf put (w.below.ensures.label
                ∙ ap (below above) w.name.ensures) w.quantum.ensures w.new.ensures w.leaf-is;
            nodes = omega (arith, l.invariant.nodes, counted, one_longer c.match-node.entries.items l.entries.items _ put);
            leaves = omega (arith, l.invariant.leaves, leaves, w.leaf-is);
            room = room.1;
          }
      | in-Init+in_ok-push-in-Init+in_ok-leaf-in-Init w ↦
          let init = w.in-Init.init in
          let children = w.in-Init.children in
          let mid = w.push-in-Init.new.self.items in
          let put = w.in_ok-push-in-Init.ensures.items in
          let under = ap (λ v. v.items) w.entries-is ∙ w.in_ok-leaf-in-Init.ensures.rows in
          let next = w.leaf-is ∙ w.in_ok-leaf-in-Init.ensures.next in
          let room = room_init items i node within at (length above) init children w.in-Init.is l.invariant.room in
          let counted = count_here items i node init children within at w.in-Init.is in
          let leaves = count_init items i node within at init children w.in-Init.is in
          let place : w.new-place.result ≡ length l.entries.items = omega (arith, w.new-place.ensures, w.len.ensures, l.entries.ok) in
          record {
            made = made_init items i node within at above c.args.parent l.leaf l.entries.items _ l.invariant.made init children w.in-Init.is mid
                c.match-node.entries.items w.below-in-Init.result.items w.below-label.result.items w.quantum-in-Init.result w.new-place.result c.match-node.leaf
                put (w.below-in-Init.ensures.label ∙ ap (below above) w.name-in-Init-2.ensures) (w.below-label.ensures.label
                ∙ ap (below above) w.name-in-Init.ensures) w.quantum-in-Init.ensures place under next;
            nodes = omega (
              arith,
              l.invariant.nodes,
              counted,
              one_longer mid l.entries.items _ put,
              ap length under,
              length-append mid (rows_of w.below-label.result.items w.new-place.result (length mid) l.leaf children),
              length-rows_of w.below-label.result.items w.new-place.result (length mid) l.leaf children,
            );
            leaves = omega (arith, l.invariant.leaves, leaves, next);
            room = room.1;
          }
    ]
