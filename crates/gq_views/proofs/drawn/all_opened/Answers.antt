use Rattle.std.proofs.Common.{◌∙◌}
use Rattle.gq_model.specs.machine.Scenario.{components}
use Rattle.gq_views.specs.internal.Opened_services.{opened_by}
use Rattle.gq_views.proofs.Printed_services.{opened_put}
use Rattle.gq_views.proofs.Table_leaf_servers.{leaf_there}
use Rattle.gq_views.proofs.drawn.all_opened.Goals as goal

pub loop-number-preserved : goal.loop-number-preserved
loop-number-preserved c =
    let l = c.loop-number in
    let s = c.args.table.now in
    let client = c.new-client.result in
    let at = leaf_there s client _ l.number _ c.new-client.ensures c.new.ensures c.leaf_count-number-end.ensures.count c.loop-number-test.true in
    let made = c.in_ok-leaf_opened.ensures ∙ (λ i. opened_by (at.all i) client.component) in
    opened_put (λ v. v.items) (components s) l.number client.component at.within at.is l.all.items c.push.new.self.items _ c.in_ok-push.ensures.items made
    ∙ l.invariant
