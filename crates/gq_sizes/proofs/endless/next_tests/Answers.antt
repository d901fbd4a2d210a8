use Rattle.std.proofs.Common.{◌∙◌, ℕ, List, ap}
use Rattle.gq_model.specs.machine.Scenario.{Interface}
use Rattle.gq_sizes.specs.Endless.{holds, leaf_holds}
use Rattle.gq_sizes.specs.Passing.{held_rows, passing, tests}
use Rattle.gq_sizes.proofs.Any_test_search.{held_is, tests_of}
use Rattle.gq_sizes.proofs.Number_table_rows.{row_more, row_none}
use Rattle.gq_sizes.proofs.endless.next_tests.Goals as goal

pub loop-service-preserved : goal.loop-service-preserved
loop-service-preserved c all components leaves =
    let x = c.loop-service-item.result in
    let test = passing c.args.sessions.now.interfaces.now c.args.sessions.now.tests.now in
    let each = λ (l : ℕ). held_is (λ v. leaf_holds test v l) x.0 all c.args.components.now c.args.leaves.now components leaves in
    let made =
    tests_of (holds test all x.0) c.holds.result c.holds-in-loop-service.result c.holds-in-loop-service-2.result c.holds-in-loop-service-3.result
    (c.holds.ensures ∙ each 0) (c.holds-in-loop-service.ensures ∙ each 1) (c.holds-in-loop-service-2.ensures ∙ each 2)
    (c.holds-in-loop-service-3.ensures ∙ each 3) in
    row_more (λ (e : List ℕ × Interface). tests (holds test all e.0)) c.entries-service-items.result.now c.loop-service.service-index x
    c.loop-service.tests.items c.push.new.self.items _ c.loop-service-test.true c.loop-service-item.is c.in_ok-push.ensures.items made
    (c.loop-service.invariant all components leaves)

pub returns : goal.returns
returns c all components leaves =
    let test = passing c.args.sessions.now.interfaces.now c.args.sessions.now.tests.now in
    row_none (λ (e : List ℕ × Interface). tests (holds test all e.0)) c.entries-service-items.result.now c.loop-service.service-index
    c.loop-service.tests.items c.loop-service-test.false (c.loop-service.invariant all components leaves)
    ∙ ap (held_rows all test) c.entries-service-items.ensures.entries
