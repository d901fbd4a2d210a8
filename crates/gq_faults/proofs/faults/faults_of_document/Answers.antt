use Rattle.std.proofs.Common.{map}
use Rattle.std.proofs.lemmas.Result.{err_from_is_err_and}
use Rattle.toml.specs.View.{table_view}
use Rattle.gq_scenario.specs.Top_table.{document_text}
use Rattle.gq_faults.specs.Documents.{document_faults}
use Rattle.gq_faults.proofs.Text_fault_kinds.{lines_of_document, refused_by_walk}
use Rattle.gq_faults.proofs.Reported_texts.{refused_as_read, reports_no_more, reports_refused}
use Rattle.gq_faults.proofs.faults.faults_of_document.Goals as goal

pub returns-in_ok-report_tables-in-Some : goal.returns-in_ok-report_tables-in-Some
returns-in_ok-report_tables-in-Some g c =
    let text = c.args.file.text.now in
    let top = table_view c.args.top in
    let fault = c.in-Some.fault in
    let read = refused_by_walk text top c.requires fault (rw c.in-Some.is at c.walk_fault.ensures) in
    reports_refused _ c.args.file.path.now text _ _ (map document_text (document_faults top)) (tt {0}) _ (lines_of_document text top c.requires fault read)
    (refused_as_read text fault read) c.in_ok-report_tables-in-Some.ensures

pub returns-in_err-report_tables-in-Some : goal.returns-in_err-report_tables-in-Some
returns-in_err-report_tables-in-Some g c =
    let text = c.args.file.text.now in
    let top = table_view c.args.top in
    let fault = c.in-Some.fault in
    let read = refused_by_walk text top c.requires fault (rw c.in-Some.is at c.walk_fault.ensures) in
    let p = err_from_is_err_and c.from_residual.result c.from_residual.ensures.1 in
    rw (p.1, p.2)
    (reports_no_more _ c.args.file.path.now text _ _ (map document_text (document_faults top)) c.in_err-report_tables-in-Some.field-0.0
    (lines_of_document text top c.requires fault read) c.in_err-report_tables-in-Some.ensures)
