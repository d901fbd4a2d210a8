use Rattle.std.proofs.Common.{arith, ap, sym, ◌+◌, ◌*◌, ◌-◌, ◌^◌, ◌∙◌, min, drop, get_or}
use Rattle.gq_verify.specs.Saturated_numbers.{saturated}
use Rattle.gq_budget.specs.internal.Asking_order.{no_asker}
use Rattle.gq_budget.specs.internal.Run_rounds.{asked_sum}
use Rattle.gq_budget.proofs.Section_request_counts.{asked_more, asked_past}
use Rattle.gq_budget.proofs.asks.asked.Goals as goal
use Rattle.gq_budget.proofs.asks.asked.Goals.{then-is_for, else-is_for}

pub loop-asker-preserved : goal.loop-asker-preserved
loop-asker-preserved c =
    let l = c.loop-asker in
    let all = saturated (asked_sum c.args.section c.args.askers.now c.args.table.now) in
    elim c.if-is_for.branch [
      | then-is_for w ↦
          record {
            summed =
                ap (λ n. saturated (n + asked_sum c.args.section (drop (l.asker-index + 1) c.args.askers.now) c.args.table.now)) w.sum-is
                ∙ asked_more c.args.section c.args.askers.now l.asker-index no_asker c.args.table.now l.sum w.saturating_mul.result w.saturating_add-sum.result
                all c.loop-asker-test.true (sym c.is_for.ensures ∙ w.if-is_for.true)
                (w.saturating_mul.ensures ∙ ap (λ n. min ((get_or c.args.askers.now l.asker-index no_asker).count * n) (2 ^ 64 - 1)) w.runs.ensures)
                w.saturating_add-sum.ensures l.invariant.summed;
            fits = omega (arith, w.sum-is);
          }
      | else-is_for w ↦
          record {
            summed =
                ap (λ n. saturated (n + asked_sum c.args.section (drop (l.asker-index + 1) c.args.askers.now) c.args.table.now)) w.sum-is
                ∙ asked_past c.args.section c.args.askers.now l.asker-index no_asker c.args.table.now l.sum all c.loop-asker-test.true
                (sym c.is_for.ensures ∙ w.if-is_for.false) l.invariant.summed;
            fits = omega (arith, w.sum-is, l.invariant.fits);
          }
    ]
