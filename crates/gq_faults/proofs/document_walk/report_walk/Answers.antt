use Rattle.std.proofs.Common.{◌++◌, Err, map, option_map}
use Rattle.std.specs.Prelude.{codes}
use Rattle.std.proofs.lemmas.Result.{err_from_is_err_and}
use Rattle.toml.specs.View.{table_view}
use Rattle.gq_reader.specs.Key_rules.{entries_or_none}
use Rattle.gq_scenario.specs.Document.{keys_of}
use Rattle.gq_scenario.specs.Document_tables.{top_keys}
use Rattle.gq_scenario.specs.Component_trees.{version_number}
use Rattle.gq_faults.specs.Documents.{interfaces_faults, node_faults, routes_faults, table_faults}
use Rattle.gq_faults.specs.Found_lists.{all_found}
use Rattle.gq_faults.specs.Document_nodes.{node_of}
use Rattle.gq_faults.proofs.Reported_fault_prefixes.{reports_begun, reports_more}
use Rattle.gq_faults.proofs.Document_value_views.{walk_is}
use Rattle.gq_faults.proofs.document_walk.report_walk.Goals as goal

pub returns : goal.returns
returns g c =
    let path = c.args.reporter.now.path.now in
    let top = table_view c.args.top.now in
    let version = version_number c.version_of-version.result in
    let interfaces = entries_or_none (option_map (λ t. table_view t.now) c.table_at-interfaces.result) in
    let a = table_faults (top_keys version) top in
    let b = interfaces_faults version interfaces in
    let d = routes_faults (codes "default-route") top in
    rw (walk_is version interfaces (map node_of c.args.nodes.now) top c.version_of-version.ensures c.table_at-interfaces.ensures c.requires)
    (reports_more path (a ++ b ++ d) (all_found (node_faults version (keys_of interfaces)) (map node_of c.args.nodes.now)) _ _ _ _ _ _ tt _
    (reports_more path (a ++ b) d _ _ _ _ _ _ tt _ (reports_more path a b _ _ _ _ _ _ tt _ c.in_ok-report_top.ensures c.in_ok-report_declared.ensures)
    c.in_ok-report_routes.ensures) c.report_nodes.ensures)

pub returns-in_err-report_top : goal.returns-in_err-report_top
returns-in_err-report_top g c =
    let path = c.args.reporter.now.path.now in
    let top = table_view c.args.top.now in
    let version = version_number c.version_of-version.result in
    let interfaces = entries_or_none (option_map (λ t. table_view t.now) c.table_at-interfaces.result) in
    let a = table_faults (top_keys version) top in
    let b = interfaces_faults version interfaces in
    let d = routes_faults (codes "default-route") top in
    let n = all_found (node_faults version (keys_of interfaces)) (map node_of c.args.nodes.now) in
    let p = err_from_is_err_and c.from_residual.result c.from_residual.ensures.1 in
    let why = c.in_err-report_top.field-0.0 in
    rw (walk_is version interfaces (map node_of c.args.nodes.now) top c.version_of-version.ensures c.table_at-interfaces.ensures c.requires, p.1, p.2)
    (reports_begun path (a ++ b ++ d) n _ _ _ _ why (reports_begun path (a ++ b) d _ _ _ _ why
    (reports_begun path a b _ _ _ _ why c.in_err-report_top.ensures)))

pub returns-in_err-report_declared : goal.returns-in_err-report_declared
returns-in_err-report_declared g c =
    let path = c.args.reporter.now.path.now in
    let top = table_view c.args.top.now in
    let version = version_number c.version_of-version.result in
    let interfaces = entries_or_none (option_map (λ t. table_view t.now) c.table_at-interfaces.result) in
    let a = table_faults (top_keys version) top in
    let b = interfaces_faults version interfaces in
    let d = routes_faults (codes "default-route") top in
    let n = all_found (node_faults version (keys_of interfaces)) (map node_of c.args.nodes.now) in
    let p = err_from_is_err_and c.from_residual-in_err-report_declared.result c.from_residual-in_err-report_declared.ensures.1 in
    let why = c.in_err-report_declared.field-0.0 in
    rw (walk_is version interfaces (map node_of c.args.nodes.now) top c.version_of-version.ensures c.table_at-interfaces.ensures c.requires, p.1, p.2)
    (reports_begun path (a ++ b ++ d) n _ _ _ _ why (reports_begun path (a ++ b) d _ _ _ _ why
    (reports_more path a b _ _ _ _ _ _ tt (Err why) c.in_ok-report_top.ensures c.in_err-report_declared.ensures)))

pub returns-in_err-report_routes : goal.returns-in_err-report_routes
returns-in_err-report_routes g c =
    let path = c.args.reporter.now.path.now in
    let top = table_view c.args.top.now in
    let version = version_number c.version_of-version.result in
    let interfaces = entries_or_none (option_map (λ t. table_view t.now) c.table_at-interfaces.result) in
    let a = table_faults (top_keys version) top in
    let b = interfaces_faults version interfaces in
    let d = routes_faults (codes "default-route") top in
    let n = all_found (node_faults version (keys_of interfaces)) (map node_of c.args.nodes.now) in
    let p = err_from_is_err_and c.from_residual-in_err-report_routes.result c.from_residual-in_err-report_routes.ensures.1 in
    let why = c.in_err-report_routes.field-0.0 in
    rw (walk_is version interfaces (map node_of c.args.nodes.now) top c.version_of-version.ensures c.table_at-interfaces.ensures c.requires, p.1, p.2)
    (reports_begun path (a ++ b ++ d) n _ _ _ _ why
    (reports_more path (a ++ b) d _ _ _ _ _ _ tt (Err why)
    (reports_more path a b _ _ _ _ _ _ tt _ c.in_ok-report_top.ensures c.in_ok-report_declared.ensures) c.in_err-report_routes.ensures))
