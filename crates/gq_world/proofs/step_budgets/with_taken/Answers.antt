use Rattle.std.proofs.Common.{◌∙◌, ◌+◌, ◌*◌, [], drop, ap, sym, refl, arith}
use Rattle.std.specs.Prelude.{slice_index_or}
use Rattle.gq_model.specs.machine.Step_budgets.{taken_steps}
use Rattle.gq_world.proofs.Stored_step_budgets.{shown_small, stored_next, sum_end, sum_next, taken_at, taken_end}
use Rattle.gq_world.proofs.step_budgets.with_taken.Goals as goal

pub loop-number-init : goal.loop-number-init
loop-number-init c = record { left = refl; stored = shown_small c.args.before c.ranges.before.fits }

pub loop-number-preserved : goal.loop-number-preserved
loop-number-preserved c =
    let l = c.loop-number in
    let signals = c.args.signals.now in
    let steps = slice_index_or c.args.budget.now.for_signals c.args.leaf [] in
    let part = c.get.result.taken * c.for_signal-steps.result in
    let split = taken_at signals steps l.number _ c.get.ensures ∙ ap (λ n. c.get.result.taken * n + taken_steps (drop (l.number + 1) signals)
    (drop (l.number + 1) steps)) (sym c.for_signal-steps.ensures) in
    record {
      left = sum_next l.sum part (taken_steps (drop (l.number + 1) signals) (drop (l.number + 1) steps)) (taken_steps (drop l.number signals)
          (drop l.number steps)) _ c.with_steps-sum.result c.with_steps-sum.ensures split l.invariant.left;
      stored = stored_next (l.sum + part) c.with_steps-sum.result c.with_steps-sum.ensures;
    }

pub returns : goal.returns
returns c =
    let l = c.loop-number in
    let signals = c.args.signals.now in
    let steps = slice_index_or c.args.budget.now.for_signals c.args.leaf [] in
    sum_end l.sum (taken_steps (drop l.number signals) (drop l.number steps)) _
    (taken_end signals (drop l.number steps) l.number (omega (arith, c.loop-number-test.false, c.count-number-end.ensures.count))) l.invariant.stored
    l.invariant.left
