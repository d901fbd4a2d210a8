use Rattle.std.proofs.Common.{ap, map}
use Rattle.gq_model.specs.machine.Amounts.{amount}
use Rattle.gq_sizes.specs.Point_maxima.{given_in}
use Rattle.gq_sizes.proofs.Least_leaves.{all_owns, own_put}
use Rattle.gq_sizes.proofs.leaf_needs.owns.Goals as goal

pub loop-place-preserved : goal.loop-place-preserved
loop-place-preserved c all are owns least =
    let l = c.loop-place in
    let given = given_in c.args.given.now.interfaces.now c.args.given.now.sums.now in
    own_put all given least c.args.leaves.now (map (λ d. d.own.ram) c.args.budgets.now) are owns l.place c.index-leaves-place.result c.own_bytes.result
    (amount c.own_bytes.result c.own_caps.result) c.loop-place-test.true c.index-leaves-place.is c.own_bytes.ensures
    (ap (amount c.own_bytes.result) c.own_caps.ensures) l.owns.items c.push.new.self.items c.in_ok-push.ensures.items (l.invariant all are owns least)

pub returns : goal.returns
returns c all are owns least =
    all_owns all c.args.leaves.now c.loop-place.owns.items c.loop-place.place are c.loop-place-test.false (c.loop-place.invariant all are owns least)
