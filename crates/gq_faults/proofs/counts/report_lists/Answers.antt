use Rattle.std.proofs.Common.{◌&&◌, map}
use Rattle.std.specs.Prelude.{codes}
use Rattle.std.proofs.lemmas.Result.{err_from_is_err_and}
use Rattle.toml.specs.View.{table_view}
use Rattle.gq_scenario.specs.Document.{is_init, is_long, routes_at}
use Rattle.gq_scenario.specs.Table_keys.{TooMany}
use Rattle.gq_faults.specs.Found_lists.{when}
use Rattle.gq_faults.proofs.Reported_fault_prefixes.{reports_begun, reports_more, memory_ends}
use Rattle.gq_scenario.specs.Top_table.{document_text}
use Rattle.gq_faults.specs.Documents.{long_lists}
use Rattle.gq_faults.specs.Document_nodes.{node_of}
use Rattle.gq_faults.proofs.counts.report_lists.Goals as goal

pub returns : goal.returns
returns g c =
    let path = c.args.reporter.now.path.now in
    let e = table_view c.args.node.now.table.now in
    let a = when (is_long (routes_at (codes "route") e)) TooMany in
    let b = when (is_init e && is_long (routes_at (codes "default-route") e)) TooMany in
    rw c.if-node.false (reports_more path a b _ _ _ _ _ _ (tt {0}) _ c.in_ok-report_long.ensures c.report_default.ensures)

pub returns-in_err-report_long : goal.returns-in_err-report_long
returns-in_err-report_long g c =
    let path = c.args.reporter.now.path.now in
    let e = table_view c.args.node.now.table.now in
    let a = when (is_long (routes_at (codes "route") e)) TooMany in
    let b = when (is_init e && is_long (routes_at (codes "default-route") e)) TooMany in
    let p = err_from_is_err_and c.from_residual-in_err-report_long.result c.from_residual-in_err-report_long.ensures.1 in
    let why = c.in_err-report_long.field-0.0 in
    rw (p.1, p.2, c.if-node.false) (reports_begun path a b _ _ _ _ why c.in_err-report_long.ensures)

pub returns-in_err-way : goal.returns-in_err-way
returns-in_err-way g c =
    memory_ends c.args.reporter.now.path.now (map document_text (long_lists (node_of c.args.node.now))) _ _ c.from_residual.result c.from_residual.ensures.1
