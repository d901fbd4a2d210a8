use Rattle.std.proofs.Common.{◌-◌, ◌+◌, ◌∙◌, sym}
use Rattle.gq_model.specs.rules.Use.{A_signal}
use Rattle.gq_budget.specs.internal.Signal_steps.{steps_by, signal_rows}
use Rattle.gq_budget.proofs.Joined_step_budgets.{rows_next}
use Rattle.gq_budget.proofs.Zipped_lists.{one_more}
use Rattle.gq_budget.proofs.signal_steps.signal_rows.Goals as goal

pub loop-signal-preserved : goal.loop-signal-preserved
loop-signal-preserved c =
    let l = c.loop-signal in
    let ns = c.args.leaves.now in
    let used = c.args.uses.now in
    let y = c.args.leaf in
    let n = c.args.signals in
    one_more l.rows.items c.push.new.self.items (signal_rows ns used y l.signal (n - l.signal)) (signal_rows ns used y (l.signal + 1) (n - (l.signal + 1)))
    (signal_rows ns used y 0 n) c.in_ok-steps_by.field-0 (steps_by ns used (A_signal y l.signal)) c.in_ok-push.ensures.items c.in_ok-steps_by.ensures
    (rows_next ns used y l.signal n c.loop-signal-test.true) l.invariant
