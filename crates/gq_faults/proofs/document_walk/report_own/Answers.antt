use Rattle.std.proofs.Common.{◌++◌, Err, option_map}
use Rattle.std.specs.Prelude.{codes}
use Rattle.std.proofs.lemmas.Result.{err_from_is_err_and}
use Rattle.toml.specs.View.{table_view}
use Rattle.gq_reader.specs.Key_rules.{entries_or_none}
use Rattle.gq_scenario.specs.Document.{keys_of}
use Rattle.gq_scenario.specs.Component_trees.{version_number}
use Rattle.gq_faults.specs.Documents.{keys_of_node, routes_faults, table_faults}
use Rattle.gq_faults.proofs.Reported_fault_prefixes.{reports_begun, reports_more}
use Rattle.gq_faults.proofs.document_walk.report_own.Goals as goal

pub returns : goal.returns
returns g c =
    let path = c.args.reporter.now.path.now in
    let e = table_view c.args.table.now in
    let k = table_faults (keys_of_node (version_number c.args.version) (keys_of (entries_or_none (option_map
    (λ t. table_view t.now) c.args.interfaces))) e) e in
    let r = routes_faults (codes "route") e in
    reports_more path (k ++ r) (routes_faults (codes "default-route") e) _ _ _ _ _ _ tt _
    (reports_more path k r _ _ _ _ _ _ tt _ c.in_ok-report_keys.ensures c.in_ok-report_routes.ensures) c.report_routes-2.ensures

pub returns-in_err-report_keys : goal.returns-in_err-report_keys
returns-in_err-report_keys g c =
    let path = c.args.reporter.now.path.now in
    let e = table_view c.args.table.now in
    let k = table_faults (keys_of_node (version_number c.args.version) (keys_of (entries_or_none (option_map
    (λ t. table_view t.now) c.args.interfaces))) e) e in
    let r = routes_faults (codes "route") e in
    let d = routes_faults (codes "default-route") e in
    let p = err_from_is_err_and c.from_residual.result c.from_residual.ensures.1 in
    let why = c.in_err-report_keys.field-0.0 in
    rw (p.1, p.2) (reports_begun path (k ++ r) d _ _ _ _ why (reports_begun path k r _ _ _ _ why c.in_err-report_keys.ensures))

pub returns-in_err-report_routes : goal.returns-in_err-report_routes
returns-in_err-report_routes g c =
    let path = c.args.reporter.now.path.now in
    let e = table_view c.args.table.now in
    let k = table_faults (keys_of_node (version_number c.args.version) (keys_of (entries_or_none (option_map
    (λ t. table_view t.now) c.args.interfaces))) e) e in
    let r = routes_faults (codes "route") e in
    let d = routes_faults (codes "default-route") e in
    let p = err_from_is_err_and c.from_residual-in_err-report_routes.result c.from_residual-in_err-report_routes.ensures.1 in
    let why = c.in_err-report_routes.field-0.0 in
    rw (p.1, p.2) (reports_begun path (k ++ r) d _ _ _ _ why
    (reports_more path k r _ _ _ _ _ _ tt (Err why) c.in_ok-report_keys.ensures c.in_err-report_routes.ensures))
