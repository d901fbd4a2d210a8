use Rattle.std.proofs.Common.{◌<◌, ◌∙◌, ap, sym, subst}
use Rattle.gq_model.specs.machine.Scenario.{components}
use Rattle.gq_views.proofs.Table_leaf_servers.{leaf_there}
use Rattle.gq_outcomes.specs.internal.Racy.{uses_marked}
use Rattle.gq_outcomes.proofs.Racy_lists.{get_or_same, user_more}
use Rattle.gq_outcomes.proofs.racy.with_users.Goals as goal

pub loop-number-preserved : goal.loop-number-preserved
loop-number-preserved c =
    let s = c.args.table.now in
    let k = c.loop-number.number in
    let client = c.new-client.result in
    let found = c.args.found.now in
    let at = leaf_there s client _ k _ c.new-client.ensures c.new.ensures c.leaf_count-number-end.ensures.count c.loop-number-test.true in
    let less_marked = subst (λ n. k < n) (sym c.requires.marked) at.within in
    user_more c.args.marked.now found (components s) k client.component _ c.in_ok-uses.uses c.is_either.result c.loop-number.all.items
    c.push.new.self.items at.within less_marked at.is (get_or_same c.args.marked.now k _ less_marked)
    (c.in_ok-uses.ensures ∙ ap (λ cs. uses_marked cs client.component found) at.all) c.is_either.ensures c.in_ok-push.ensures.items
    ∙ c.loop-number.invariant
