use Rattle.std.proofs.Common.{◌≡◌, ◌∙◌, Some, ap, arith, sym, subst}
use Rattle.std.specs.Prelude.{slice_get}
use Rattle.std.proofs.lemmas.Option.{slice_get-get_or}
use Rattle.gq_model.specs.machine.Scenario.{components, system}
use Rattle.gq_model.specs.rules.Use.{services}
use Rattle.gq_resolve.specs.Served.{server_among}
use Rattle.gq_views.proofs.Table_leaf_servers.{among_self, leaf_there}
use Rattle.gq_outcomes.specs.internal.Asks.{AreOfSections}
use Rattle.gq_outcomes.proofs.Choice_lists.{asks_more, count_put}
use Rattle.gq_outcomes.proofs.keys.Served_asks.{sections_served}
use Rattle.gq_outcomes.proofs.choices.all_asks.Goals as goal

pub returns-clause-count : goal.returns-clause-count
returns-clause-count c =
    let count = c.loop-number.invariant.count in
    let past = c.loop-number-test.false in
    let most = c.loop-number.auto.number-end in
    let all = c.leaf_count-number-end.ensures.count in omega (arith, count, past, most, all)

pub loop-number-preserved : goal.loop-number-preserved
loop-number-preserved c =
    let s = c.args.table.now in
    let k = c.loop-number.number in
    let found = c.loop-number.all.items in
    let client = c.new-client.result in
    let component = client.component in
    let sections = component.node.program.sections in
    let new = c.in_ok-program_asks.field-0 in
    let items = c.in_ok-push.ensures.items in
    let at = leaf_there s client _ k _ c.new-client.ensures c.new.ensures c.leaf_count-number-end.ensures.count c.loop-number-test.true in
    let there = slice_get-get_or (components s) k component at.within ∙ ap Some (sym at.is) in
    let of = subst (λ cs. AreOfSections (server_among cs component) sections new.items) at.all
    (sections_served client sections new.items (among_self (services component)) c.in_ok-program_asks.ensures) in
    record {
      count = count_put found c.push.new.self.items new k items c.loop-number.invariant.count;
      each = λ x d asks e f.
          asks_more (λ v. v.items) (system s) (components s) found new component k c.loop-number.invariant.count there of c.loop-number.invariant.each x d
          asks e (subst (λ l. slice_get l x ≡ Some asks) items f);
    }
