use Rattle.gq_sizes.proofs.Least_leaves.{at_place, least_put}
use Rattle.gq_sizes.proofs.leaf_needs.least_of_leaves.Goals as goal

pub loop-leaf-preserved : goal.loop-leaf-preserved
loop-leaf-preserved c all are owns =
    let l = c.loop-leaf in
    let cs = c.args.components.now in
    let p = at_place cs l.leaf c.loop-leaf-test.true in
    least_put all cs l.leaf p.0 c.least_along.result are p.1 p.2 (c.least_along.ensures all p.0 are owns p.1) l.least.items c.push.new.self.items _
    c.in_ok-push.ensures.items (l.invariant all are owns)
