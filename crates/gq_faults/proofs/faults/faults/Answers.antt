use Rattle.std.proofs.Common.{[], ◌∷◌}
use Rattle.std.proofs.lemmas.Result.{err_from_is_err_and}
use Rattle.gq_scenario.specs.Fault_words.{scenario_fault_text}
use Rattle.gq_faults.proofs.Text_fault_kinds.{lines_of_stop}
use Rattle.gq_faults.proofs.Reported_texts.{refused_at_stop, reports_no_more, reports_nothing, reports_refused}
use Rattle.gq_faults.proofs.faults.faults.Goals as goal

pub returns-in-Err-Memory : goal.returns-in-Err-Memory
returns-in-Err-Memory g c = reports_nothing _ c.args.file.path.now c.args.file.text.now c.args.out.now

pub returns-in_ok-report_stop-in-Err-Fault : goal.returns-in_ok-report_stop-in-Err-Fault
returns-in_ok-report_stop-in-Err-Fault g c =
    let text = c.args.file.text.now in
    let fault = c.in-Err-Fault.fault in
    let stopped = rw c.in-Err-Fault.field-0-is at c.in-Err-Fault.ensures in
    reports_refused _ c.args.file.path.now text _ _ (scenario_fault_text fault ∷ []) (tt {0}) _ (lines_of_stop text fault stopped)
    (refused_at_stop text fault stopped) c.in_ok-report_stop-in-Err-Fault.ensures

pub returns-in_err-report_stop-in-Err-Fault : goal.returns-in_err-report_stop-in-Err-Fault
returns-in_err-report_stop-in-Err-Fault g c =
    let text = c.args.file.text.now in
    let fault = c.in-Err-Fault.fault in
    let stopped = rw c.in-Err-Fault.field-0-is at c.in-Err-Fault.ensures in
    let p = err_from_is_err_and c.from_residual.result c.from_residual.ensures.1 in
    rw (p.1, p.2)
    (reports_no_more _ c.args.file.path.now text _ _ (scenario_fault_text fault ∷ []) c.in_err-report_stop-in-Err-Fault.field-0.0
    (lines_of_stop text fault stopped) c.in_err-report_stop-in-Err-Fault.ensures)
