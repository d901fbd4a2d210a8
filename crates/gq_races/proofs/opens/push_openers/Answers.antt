use Rattle.std.proofs.Common.{◌∙◌, ◌++◌, ap, map}
use Rattle.gq_model.specs.machine.Scenario.{components}
use Rattle.gq_races.specs.Race_text.{opened_text}
use Rattle.gq_races.proofs.Race_leaf_lines.{opener_put}
use Rattle.gq_races.proofs.Served_openers.{opened_served}
use Rattle.gq_views.specs.Listing.{joined}
use Rattle.gq_views.proofs.Table_leaf_servers.{leaf_there}
use Rattle.gq_races.proofs.opens.push_openers.Goals as goal

pub loop-number-preserved : goal.loop-number-preserved
loop-number-preserved c =
    let l = c.loop-number in
    let s = c.args.table.now in
    let client = c.new-client.result in
    let at = leaf_there s client _ l.number _ c.new-client.ensures c.new.ensures c.leaf_count-number-end.ensures.count c.loop-number-test.true in
    opener_put (components s) c.args.leaf l.number client.component at.within at.is l.text.items c.push_client.new.text.items _
    (c.in_ok-push_client.ensures ∙ ap (λ found. l.text.items ++ joined (map opened_text found)) (opened_served s client c.args.leaf at.all))
    l.invariant
