use Rattle.std.proofs.Common.{◌∙◌, ℕ, List, ap}
use Rattle.gq_model.specs.machine.Amounts.{Caps}
use Rattle.gq_model.specs.machine.Scenario.{Interface}
use Rattle.gq_verify.specs.Saturated_numbers.{saturated}
use Rattle.gq_sizes.specs.Size.{leaf_needed, needed}
use Rattle.gq_sizes.specs.Point_maxima.{given_in}
use Rattle.gq_sizes.specs.Saturated_tables.{round_rows, row}
use Rattle.gq_sizes.proofs.Provider_maximum_search.{needed_is}
use Rattle.gq_sizes.proofs.Number_table_rows.{row_more, row_none, row_of}
use Rattle.gq_sizes.proofs.needs.round_caps.Goals as goal

pub loop-service-preserved : goal.loop-service-preserved
loop-service-preserved c all components leaves =
    let x = c.loop-service-item.result in
    let given = given_in c.args.given.now.interfaces.now c.args.given.now.sums.now in
    let each = λ (l : ℕ). ap saturated
    (needed_is (λ v. leaf_needed given Caps v x.1 l) x.0 all c.args.components.now c.args.leaves.now components leaves) in
    let made =
    row_of (λ l. saturated (needed given Caps all x.0 x.1 l)) c.needed_caps.result c.needed_caps-in-loop-service.result
    c.needed_caps-in-loop-service-2.result c.needed_caps-in-loop-service-3.result (c.needed_caps.ensures x.1 ∙ each 0)
    (c.needed_caps-in-loop-service.ensures x.1 ∙ each 1) (c.needed_caps-in-loop-service-2.ensures x.1 ∙ each 2)
    (c.needed_caps-in-loop-service-3.ensures x.1 ∙ each 3) in
    row_more (λ (e : List ℕ × Interface). row (λ l. saturated (needed given Caps all e.0 e.1 l))) c.entries-service-items.result.now
    c.loop-service.service-index x c.loop-service.needs.items c.push.new.self.items _ c.loop-service-test.true c.loop-service-item.is
    c.in_ok-push.ensures.items made (c.loop-service.invariant all components leaves)

pub returns : goal.returns
returns c all components leaves =
    let given = given_in c.args.given.now.interfaces.now c.args.given.now.sums.now in
    row_none (λ (e : List ℕ × Interface). row (λ l. saturated (needed given Caps all e.0 e.1 l))) c.entries-service-items.result.now
    c.loop-service.service-index c.loop-service.needs.items c.loop-service-test.false (c.loop-service.invariant all components leaves)
    ∙ ap (round_rows all given) c.entries-service-items.ensures.entries
