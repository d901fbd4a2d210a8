use Rattle.std.proofs.Common.{◌+◌, ◌∷◌, [], map, drop, arith}
use Rattle.gq_model.specs.texts.Fault_texts.{refusal_text}
use Rattle.gq_faults.specs.Leaves_over_limit.{over_limit}
use Rattle.gq_faults.specs.Found_lines.{lines_found}
use Rattle.gq_faults.proofs.Appended_faults.{all_there}
use Rattle.gq_faults.proofs.Over_limit_leaves.{over_next, over_end}
use Rattle.gq_faults.proofs.Joined_fault_lists.{then_more}
use Rattle.gq_faults.proofs.budget_faults.push_all_over.Goals as goal

pub loop-place-preserved : goal.loop-place-preserved
loop-place-preserved c =
    let limit = c.args.limit in
    let xs = c.args.components.now in
    let bs = c.args.budgets.now in
    let i = c.loop-place.place in
    let x = c.index-components-place.result in
    let b = c.index-budgets-place.result in
    then_more _ (lines_found c.loop-place.found.items) _ (map refusal_text (over_limit limit (drop i xs) (drop i bs))) (map refusal_text (over_limit
    limit (x ∷ []) (b ∷ [])))
    (map refusal_text (over_limit limit (drop (i + 1) xs) (drop (i + 1) bs))) c.in_ok-push_over.ensures
    (over_next refusal_text xs bs i limit x b c.loop-place-test.true (omega arith) c.index-components-place.is c.index-budgets-place.is) c.loop-place.invariant

pub returns : goal.returns
returns c =
    let xs = c.args.components.now in
    let bs = c.args.budgets.now in
    let i = c.loop-place.place in
    all_there _ _ _ c.loop-place.invariant (over_end refusal_text xs bs i c.args.limit c.loop-place-test.false)
