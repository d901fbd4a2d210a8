use Rattle.std.proofs.Common.{ℕ, subst, arith, IfSome}
use Rattle.std.specs.Prelude.{◌≡◌, slice_get}
use Rattle.gq_resolve.specs.NodeTables.{NodeRow, node_rows}
use Rattle.gq_prepared.specs.Account_nodes.{or_zero, parents_of}
use Rattle.gq_prepared.proofs.Joined_lists.{push_map}
use Rattle.gq_prepared.proofs.plans.parents_of.Goals as goal

pub loop-place-preserved : goal.loop-place-preserved
loop-place-preserved c =
    let s = c.args.table.now in
    push_map (λ (r : NodeRow). or_zero r.parent) (node_rows s) (parents_of s) c.loop-place.place c.loop-place.parents.items c.push.new.self.items
    c.parent_of.result (omega (arith, c.loop-place-test.true, c.node_count-place-end.ensures.count))
    (subst (λ (n : ℕ). IfSome (slice_get (node_rows s) n) (λ r. c.parent_of.result ≡ or_zero r.parent)) c.new.ensures c.parent_of.ensures)
    c.in_ok-push.ensures.items c.loop-place.invariant
