use Rattle.std.proofs.Common.{arith, [], ap, ◌∙◌}
use Rattle.std.specs.Prelude.{slice_index, slice_index_or}
use Rattle.gq_model.specs.machine.Step_budgets.{StepBudget}
use Rattle.gq_load.proofs.Signal_line_steps.{step_at_small, sum_next}
use Rattle.gq_load.proofs.signal_lines.all_steps.Goals as goal

pub loop-budget-preserved : goal.loop-budget-preserved
loop-budget-preserved c =
    let l = c.loop-budget in
    let bs = c.args.budgets.now in
    let b = c.budget-item.result in
    let y = c.args.leaf in
    let i = c.args.signal in
    let here = c.for_signal-sum.ensures ∙ ap (λ (s : StepBudget). slice_index (slice_index_or s.for_signals y []) i) c.steps.ensures in
    let next = sum_next y i l.budget-index bs b c.loop-budget-test.true c.budget-item.is in
    let small = step_at_small y i l.budget-index bs b c.requires.small c.loop-budget-test.true c.budget-item.is in
    record {
      summed = omega (arith, here, next, l.invariant.summed);
      small = omega (arith, here, small, l.invariant.small);
    }
