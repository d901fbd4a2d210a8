-- A leaf more, and at the end all.
use Rattle.gq_sizes.specs.Donated.{leaf_donated, leaf_list}
use Rattle.gq_sizes.specs.Point_maxima.{given_in}
use Rattle.gq_sizes.proofs.Donated_lists.{list_all, list_more}
use Rattle.gq_sizes.proofs.donations.all_donations.Goals as goal

pub loop-verified-preserved : goal.loop-verified-preserved
loop-verified-preserved c =
    let f = given_in c.args.needs.now.interfaces.now c.args.needs.now.sums.now in
    let d = c.in_ok-leaf_donations in
    list_more leaf_list (leaf_donated f) c.args.leaves.now c.loop-verified.verified-index c.verified-item.result c.loop-verified.donations.items
    c.push.new.self.items d.field-0 c.loop-verified-test.true c.verified-item.is c.in_ok-push.ensures.items d.ensures c.loop-verified.invariant

pub returns : goal.returns
returns c =
    let f = given_in c.args.needs.now.interfaces.now c.args.needs.now.sums.now in
    list_all leaf_list (leaf_donated f) c.args.leaves.now c.loop-verified.verified-index c.loop-verified.donations.items
    c.loop-verified-test.false c.loop-verified.invariant
