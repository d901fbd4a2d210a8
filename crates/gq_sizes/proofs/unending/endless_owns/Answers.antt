use Rattle.std.proofs.Common.{◌∙◌}
use Rattle.gq_sizes.specs.Passing.{passing}
use Rattle.gq_sizes.proofs.Leaves_endless.{own_leads, owns_are}
use Rattle.gq_sizes.proofs.Number_table_rows.{row_more, row_none}
use Rattle.gq_sizes.proofs.unending.endless_owns.Goals as goal

pub loop-verified-preserved : goal.loop-verified-preserved
loop-verified-preserved c =
    let test = passing c.args.sessions.now.interfaces.now c.args.sessions.now.tests.now in
    row_more (own_leads test) c.args.leaves.now c.loop-verified.verified-index c.verified-item.result c.loop-verified.owns.items c.push.new.self.items _
    c.loop-verified-test.true c.verified-item.is c.in_ok-push.ensures.items c.own_holds.ensures c.loop-verified.invariant

pub returns : goal.returns
returns c all are is =
    let test = passing c.args.sessions.now.interfaces.now c.args.sessions.now.tests.now in
    row_none (own_leads test) c.args.leaves.now c.loop-verified.verified-index c.loop-verified.owns.items c.loop-verified-test.false c.loop-verified.invariant
    ∙ owns_are all test is c.args.leaves.now are
