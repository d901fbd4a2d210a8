use Rattle.std.proofs.Common.{ap, ◌∙◌}
use Rattle.std.proofs.lemmas.Slice.Zip.{Zip-more, either_empty_from_Zip}
use Rattle.std.specs.Slice.Iter.{iter_rest}
use Rattle.std.specs.Iterator.Adapters.{zip_first, zip_second}
use Rattle.gq_verify.specs.Saturated_numbers.{saturated}
use Rattle.gq_budget.specs.internal.Product_sums.{products}
use Rattle.gq_budget.specs.internal.Run_rounds.{budgets_by}
use Rattle.gq_budget.proofs.Zipped_lists.{one_more, none_left, budgets_none, budgets_first}
use Rattle.gq_budget.proofs.signal_steps.budgets.Goals as goal

pub loop-leaf-preserved : goal.loop-leaf-preserved
loop-leaf-preserved c =
    let s = c.loop-leaf.leaf-iterator in
    let t = c.next.new.self in
    let m = Zip-more s t c.next.result (c.in-Some.leaf, c.in-Some.often) c.in-Some.is c.next.ensures.steps in
    let xs = iter_rest (zip_first s) in
    let ys = iter_rest (zip_second s) in
    let xs' = iter_rest (zip_first t) in
    let ys' = iter_rest (zip_second t) in
    let x = c.in-Some.leaf.now in
    one_more c.loop-leaf.steps.items c.push.new.self.items (budgets_by xs ys) (budgets_by xs' ys') (budgets_by c.args.leaves.now c.args.often.now)
    c.products.result (saturated (products x.costs c.in-Some.often.now))
    c.in_ok-push.ensures.ok (c.products.ensures ∙ ap (λ l. saturated (products l c.in-Some.often.now)) c.costs-costs.ensures)
    (budgets_first xs xs' ys ys' x c.in-Some.often.now m.0 m.1) c.loop-leaf.invariant

pub returns : goal.returns
returns c =
    let s = c.loop-leaf.leaf-iterator in
    let m = either_empty_from_Zip s c.next.new.self c.next.result c.in-None.is c.next.ensures.steps in
    let xs = iter_rest (zip_first s) in
    let ys = iter_rest (zip_second s) in
    c.new.ensures
    ∙ none_left c.loop-leaf.steps.items (budgets_by xs ys) (budgets_by c.args.leaves.now c.args.often.now) (budgets_none xs ys m) c.loop-leaf.invariant
