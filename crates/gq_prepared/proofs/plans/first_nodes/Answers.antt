use Rattle.std.proofs.Common.{ℕ, subst, arith, map, IfSome}
use Rattle.std.specs.Prelude.{◌≡◌, slice_get}
use Rattle.gq_resolve.specs.NodeTables.{node_rows}
use Rattle.gq_prepared.specs.internal.Firsts.{first_node}
use Rattle.gq_prepared.proofs.Joined_lists.{push_map}
use Rattle.gq_prepared.proofs.plans.first_nodes.Goals as goal

pub loop-place-preserved : goal.loop-place-preserved
loop-place-preserved c =
    let s = c.args.table.now in
    push_map (first_node s) (node_rows s) (map (first_node s) (node_rows s)) c.loop-place.place c.loop-place.nodes.items c.push.new.self.items
    c.first_node.result (omega (arith, c.loop-place-test.true, c.node_count-place-end.ensures.count))
    (subst (λ (n : ℕ). IfSome (slice_get (node_rows s) n) (λ r. c.first_node.result ≡ first_node s r)) c.new.ensures c.first_node.ensures)
    c.in_ok-push.ensures.items c.loop-place.invariant
