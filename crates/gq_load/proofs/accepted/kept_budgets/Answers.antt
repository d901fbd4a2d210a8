use Rattle.std.proofs.Common.{◌∙◌, ap, sym, subst, map, length}
use Rattle.gq_model.specs.machine.Scenario.{components, system}
use Rattle.gq_budget.specs.Step_budgets.{budgets_from}
use Rattle.gq_budget.specs.Leaf_section_counts.{AreCountsOf}
use Rattle.gq_load.specs.internal.Judged_programs.{judged_by}
use Rattle.gq_load.specs.internal.Counted_leaves.{counted_leaves}
use Rattle.gq_load.specs.internal.Saturated_budgets.{budgets_with}
use Rattle.gq_load.specs.internal.Surveys.{own_of}
use Rattle.gq_load.proofs.Saturated_step_budgets.{kept_same, steps_count, owns_count}
use Rattle.gq_load.proofs.Step_counted_leaves.{leaves_same}
use Rattle.gq_load.proofs.accepted.kept_budgets.Goals as goal

pub steps_of-requires-clause-counted : goal.steps_of-requires-clause-counted
steps_of-requires-clause-counted c =
    let s = c.args.scenario.now in
    let leaves = ap (counted_leaves s.interfaces) c.requires.components ∙ leaves_same (system s) (components s) in
    let all = counted_leaves s.interfaces c.args.components.now in
    subst (AreCountsOf c.as_slice.result.now) leaves
    (subst (λ ns. AreCountsOf ns all) (sym c.as_slice.ensures.value) c.requires.surveys.counted)

pub budgets_of-requires : goal.budgets_of-requires
budgets_of-requires c =
    let s = c.args.scenario.now in
    let cs = c.args.components.now in
    let steps = c.in_ok-steps.ensures ∙ ap (budgets_from (system s) 0) (sym c.requires.components) in
    let owns = c.as_slice-2.ensures.value ∙ c.requires.surveys.owns in
    ap length steps ∙ (steps_count (system s) 0 cs ∙ sym (ap length owns ∙ owns_count s.interfaces cs))

pub returns : goal.returns
returns c =
    let s = c.args.scenario.now in
    let cs = c.args.components.now in
    let steps = c.in_ok-steps.ensures ∙ ap (budgets_from (system s) 0) (sym c.requires.components) in
    let owns = c.as_slice-2.ensures.value ∙ c.requires.surveys.owns in
    c.in_ok-budgets.ensures
    ∙ (ap (λ v. budgets_with v c.as_slice-2.result.now c.in_ok-steps.steps.items) c.version.ensures
    ∙ (ap (λ o. budgets_with s.version o c.in_ok-steps.steps.items) owns
    ∙ (ap (budgets_with s.version (map (λ d. own_of (judged_by s.interfaces d)) cs)) steps ∙ kept_same s.version (system s) 0 cs)))
