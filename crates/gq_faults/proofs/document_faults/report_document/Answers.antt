use Rattle.std.proofs.Common.{◌++◌, Err, map, rules}
use Rattle.std.proofs.lemmas.Result.{err_from_is_err_and}
use Rattle.toml.specs.View.{table_view}
use Rattle.gq_scenario.specs.Top_table.{document_text}
use Rattle.gq_faults.specs.Documents.{counts_faults, document_faults, names_faults, walk_faults}
use Rattle.gq_faults.proofs.Reported_fault_prefixes.{memory_ends, reports_begun, reports_more}
use Rattle.gq_faults.proofs.document_faults.report_document.Goals as goal

pub returns : goal.returns
returns g c =
    let path = c.args.reporter.now.path.now in
    let top = table_view c.args.top.now in
    reports_more path (walk_faults top ++ counts_faults top) (names_faults top) _ _ _ _ _ _ (tt {0}) _
    (reports_more path (walk_faults top) (counts_faults top) _ _ _ _ _ _ (tt {0}) _ c.in_ok-report_walk.ensures c.in_ok-report_counts.ensures)
    c.report_names.ensures

pub report_counts-requires : goal.report_counts-requires
report_counts-requires g c = search rules

pub returns-in_err-nodes : goal.returns-in_err-nodes
returns-in_err-nodes g c =
    memory_ends c.args.reporter.now.path.now (map document_text (document_faults (table_view c.args.top.now))) _ _ c.from_residual.result
    c.from_residual.ensures.1

pub returns-in_err-report_walk : goal.returns-in_err-report_walk
returns-in_err-report_walk g c =
    let path = c.args.reporter.now.path.now in
    let top = table_view c.args.top.now in
    let p = err_from_is_err_and c.from_residual-in_err-report_walk.result c.from_residual-in_err-report_walk.ensures.1 in
    let why = c.in_err-report_walk.field-0.0 in
    rw (p.1, p.2)
    (reports_begun path (walk_faults top ++ counts_faults top) (names_faults top) _ _ _ _ why
    (reports_begun path (walk_faults top) (counts_faults top) _ _ _ _ why c.in_err-report_walk.ensures))

pub returns-in_err-report_counts : goal.returns-in_err-report_counts
returns-in_err-report_counts g c =
    let path = c.args.reporter.now.path.now in
    let top = table_view c.args.top.now in
    let p = err_from_is_err_and c.from_residual-in_err-report_counts.result c.from_residual-in_err-report_counts.ensures.1 in
    let why = c.in_err-report_counts.field-0.0 in
    rw (p.1, p.2)
    (reports_begun path (walk_faults top ++ counts_faults top) (names_faults top) _ _ _ _ why
    (reports_more path (walk_faults top) (counts_faults top) _ _ _ _ _ _ (tt {0}) (Err why) c.in_ok-report_walk.ensures c.in_err-report_counts.ensures))
