use Rattle.std.proofs.Common.{◌∙◌, ap, arith, drop, length, length-append, map}
use Rattle.std.proofs.lemmas.List.{length-map}
use Rattle.gq_model.specs.machine.Scenario.{components}
use Rattle.gq_races.specs.internal.Openers.{opened_from}
use Rattle.gq_races.proofs.Served_openers.{servers_put, servers_served}
use Rattle.gq_views.proofs.Table_leaf_servers.{leaf_there}
use Rattle.gq_races.proofs.openers.all_opened.Goals as goal

pub loop-number-preserved : goal.loop-number-preserved
loop-number-preserved c =
    let l = c.loop-number in
    let s = c.args.table.now in
    let client = c.new-client.result in
    let at = leaf_there s client _ l.number _ c.new-client.ensures c.new.ensures c.leaf_count-number-end.ensures.count c.loop-number-test.true in
    servers_put (components s) l.number client.component at.within at.is l.all.items c.push.new.self.items _ c.in_ok-push.ensures.items
    (servers_served s client _ at.all c.in_ok-of.ensures.first c.in_ok-of.ensures.later)
    ∙ l.invariant

pub returns-clause-few : goal.returns-clause-few
returns-clause-few c =
    let all = components c.args.table.now in
    let made = c.loop-number.all.items in
    let later = map (opened_from all) (drop c.loop-number.number all) in
    omega (
      arith,
      ap length c.loop-number.invariant,
      length-append made later,
      length-map all (opened_from all),
      c.leaf_count-number-end.ensures.count,
      c.leaf_count-number-end.ensures.few,
    )
