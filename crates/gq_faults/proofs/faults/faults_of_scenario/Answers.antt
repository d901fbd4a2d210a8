use Rattle.std.proofs.Common.{map}
use Rattle.std.proofs.lemmas.Result.{err_from_is_err_and}
use Rattle.gq_load.specs.Load.{fault_text}
use Rattle.gq_faults.specs.Scenario_faults.{scenario_faults}
use Rattle.gq_faults.proofs.Text_fault_kinds.{lines_of_scenario}
use Rattle.gq_faults.proofs.Reported_texts.{refused_as_judged, reports_accepted, reports_no_more, reports_nothing, reports_refused}
use Rattle.gq_faults.proofs.faults.faults_of_scenario.Goals as goal

pub returns-in-Ok : goal.returns-in-Ok
returns-in-Ok g c = reports_accepted c.args.file.text.now c.args.scenario.now c.requires _ c.args.file.path.now c.args.out.now c.in-Ok.ensures.faultless

pub returns-in-Err-Memory : goal.returns-in-Err-Memory
returns-in-Err-Memory g c = reports_nothing _ c.args.file.path.now c.args.file.text.now c.args.out.now

pub returns-in_ok-report_scenario-in-Err-Fault : goal.returns-in_ok-report_scenario-in-Err-Fault
returns-in_ok-report_scenario-in-Err-Fault g c =
    let text = c.args.file.text.now in
    let s = c.args.scenario.now in
    let fault = c.in-Err-Fault.fault in
    reports_refused _ c.args.file.path.now text _ _ (map fault_text (scenario_faults s)) (tt {0}) fault (lines_of_scenario text s c.requires)
    (refused_as_judged text s c.requires fault (rw c.in-Err-Fault.field-0-is at c.in-Err-Fault.ensures.refused)) c.in_ok-report_scenario-in-Err-Fault.ensures

pub returns-in_err-report_scenario-in-Err-Fault : goal.returns-in_err-report_scenario-in-Err-Fault
returns-in_err-report_scenario-in-Err-Fault g c =
    let p = err_from_is_err_and c.from_residual.result c.from_residual.ensures.1 in
    rw (p.1, p.2)
    (reports_no_more _ c.args.file.path.now c.args.file.text.now _ _ (map fault_text (scenario_faults c.args.scenario.now))
    c.in_err-report_scenario-in-Err-Fault.field-0.0 (lines_of_scenario c.args.file.text.now c.args.scenario.now c.requires)
    c.in_err-report_scenario-in-Err-Fault.ensures)
