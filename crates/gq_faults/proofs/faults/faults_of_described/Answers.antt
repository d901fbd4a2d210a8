use Rattle.std.proofs.Common.{map}
use Rattle.std.proofs.lemmas.Result.{err_from_is_err_and}
use Rattle.toml.specs.View.{table_view}
use Rattle.gq_scenario.specs.Top_table.{document_text}
use Rattle.gq_faults.specs.Documents.{document_faults}
use Rattle.gq_faults.proofs.Text_fault_kinds.{lines_of_document}
use Rattle.gq_faults.proofs.Reported_texts.{refused_as_read, reports_no_more, reports_nothing, reports_refused}
use Rattle.gq_faults.proofs.faults.faults_of_described.Goals as goal

pub returns-in-Err-Memory : goal.returns-in-Err-Memory
returns-in-Err-Memory g c = reports_nothing _ c.args.file.path.now c.args.file.text.now c.args.out.now

pub returns : goal.returns
returns g c =
    let text = c.args.file.text.now in
    let top = table_view c.args.top in
    let fault = c.in-Err-Fault.fault in
    let read = rw c.in-Err-Fault.field-0-is at c.in-Err-Fault.ensures in
    reports_refused _ c.args.file.path.now text _ _ (map document_text (document_faults top)) (tt {0}) _ (lines_of_document text top c.requires fault read)
    (refused_as_read text fault read) c.in_ok-report_tables-in-Err-Fault.ensures

pub returns-in_err-report_tables-in-Err-Fault : goal.returns-in_err-report_tables-in-Err-Fault
returns-in_err-report_tables-in-Err-Fault g c =
    let text = c.args.file.text.now in
    let top = table_view c.args.top in
    let fault = c.in-Err-Fault.fault in
    let read = rw c.in-Err-Fault.field-0-is at c.in-Err-Fault.ensures in
    let p = err_from_is_err_and c.from_residual.result c.from_residual.ensures.1 in
    rw (p.1, p.2)
    (reports_no_more _ c.args.file.path.now text _ _ (map document_text (document_faults top)) c.in_err-report_tables-in-Err-Fault.field-0.0
    (lines_of_document text top c.requires fault read) c.in_err-report_tables-in-Err-Fault.ensures)
