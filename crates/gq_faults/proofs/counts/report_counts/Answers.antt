use Rattle.std.proofs.Common.{◌++◌, Err, length, map, filter}
use Rattle.std.specs.Prelude.{codes}
use Rattle.std.proofs.lemmas.Result.{err_from_is_err_and}
use Rattle.toml.specs.Data.{get_member}
use Rattle.toml.specs.View.{table_view}
use Rattle.gq_scenario.specs.Document.{is_long, keys_of, routes_at, table_of}
use Rattle.gq_scenario.specs.Table_keys.{TooMany}
use Rattle.gq_faults.specs.Documents.{is_inner, is_leaf, long_lists, too_many}
use Rattle.gq_faults.specs.Found_lists.{all_found, when}
use Rattle.gq_faults.specs.Document_nodes.{node_of}
use Rattle.gq_faults.proofs.Printed_counts.{count_reported, counts_is}
use Rattle.gq_faults.proofs.Reported_fault_prefixes.{reports_begun, reports_more}
use Rattle.gq_faults.proofs.counts.report_counts.Goals as goal

pub returns : goal.returns
returns g c =
    let path = c.args.reporter.now.path.now in
    let top = table_view c.args.top.now in
    let nodes = map node_of c.args.nodes.now in
    let a = too_many (length (filter is_leaf nodes)) in
    let b = too_many (length (filter is_inner nodes)) in
    let d = too_many (length (keys_of (table_of (get_member (codes "interface") top)))) in
    let e = when (is_long (routes_at (codes "default-route") top)) TooMany in
    rw (counts_is nodes top c.requires)
    (reports_more path (a ++ b ++ d ++ e) (all_found long_lists nodes) _ _ _ _ _ _ (tt {0}) _
    (reports_more path (a ++ b ++ d) e _ _ _ _ _ _ (tt {0}) _
    (reports_more path (a ++ b) d _ _ _ _ _ _ (tt {0}) _
    (reports_more path a b _ _ _ _ _ _ (tt {0}) _ (count_reported path _ _ _ _ _ _ _ c.count_leaves.ensures c.in_ok-report_crowd.ensures)
    (count_reported path _ _ _ _ _ _ _ c.count_inits.ensures c.in_ok-report_crowd-2.ensures))
    (count_reported path _ _ _ _ _ _ _ c.count_interfaces.ensures c.in_ok-report_interfaces.ensures)) c.in_ok-report_long.ensures) c.report_all_lists.ensures)

pub returns-in_err-report_crowd : goal.returns-in_err-report_crowd
returns-in_err-report_crowd g c =
    let path = c.args.reporter.now.path.now in
    let top = table_view c.args.top.now in
    let nodes = map node_of c.args.nodes.now in
    let a = too_many (length (filter is_leaf nodes)) in
    let b = too_many (length (filter is_inner nodes)) in
    let d = too_many (length (keys_of (table_of (get_member (codes "interface") top)))) in
    let e = when (is_long (routes_at (codes "default-route") top)) TooMany in
    let l = all_found long_lists nodes in
    let p = err_from_is_err_and c.from_residual.result c.from_residual.ensures.1 in
    let why = c.in_err-report_crowd.field-0.0 in
    rw (counts_is nodes top c.requires, p.1, p.2)
    (reports_begun path (a ++ b ++ d ++ e) l _ _ _ _ why (reports_begun path (a ++ b ++ d) e _ _ _ _ why (reports_begun path (a ++ b) d _ _ _ _ why
    (reports_begun path a b _ _ _ _ why (count_reported path _ _ _ _ _ _ _ c.count_leaves.ensures c.in_err-report_crowd.ensures)))))

pub returns-in_err-report_crowd-2 : goal.returns-in_err-report_crowd-2
returns-in_err-report_crowd-2 g c =
    let path = c.args.reporter.now.path.now in
    let top = table_view c.args.top.now in
    let nodes = map node_of c.args.nodes.now in
    let a = too_many (length (filter is_leaf nodes)) in
    let b = too_many (length (filter is_inner nodes)) in
    let d = too_many (length (keys_of (table_of (get_member (codes "interface") top)))) in
    let e = when (is_long (routes_at (codes "default-route") top)) TooMany in
    let l = all_found long_lists nodes in
    let p = err_from_is_err_and c.from_residual-in_err-report_crowd-2.result c.from_residual-in_err-report_crowd-2.ensures.1 in
    let why = c.in_err-report_crowd-2.field-0.0 in
    rw (counts_is nodes top c.requires, p.1, p.2)
    (reports_begun path (a ++ b ++ d ++ e) l _ _ _ _ why (reports_begun path (a ++ b ++ d) e _ _ _ _ why (reports_begun path (a ++ b) d _ _ _ _ why
    (reports_more path a b _ _ _ _ _ _ (tt {0}) (Err why) (count_reported path _ _ _ _ _ _ _ c.count_leaves.ensures c.in_ok-report_crowd.ensures)
    (count_reported path _ _ _ _ _ _ _ c.count_inits.ensures c.in_err-report_crowd-2.ensures)))))

pub returns-in_err-report_interfaces : goal.returns-in_err-report_interfaces
returns-in_err-report_interfaces g c =
    let path = c.args.reporter.now.path.now in
    let top = table_view c.args.top.now in
    let nodes = map node_of c.args.nodes.now in
    let a = too_many (length (filter is_leaf nodes)) in
    let b = too_many (length (filter is_inner nodes)) in
    let d = too_many (length (keys_of (table_of (get_member (codes "interface") top)))) in
    let e = when (is_long (routes_at (codes "default-route") top)) TooMany in
    let l = all_found long_lists nodes in
    let p = err_from_is_err_and c.from_residual-in_err-report_interfaces.result c.from_residual-in_err-report_interfaces.ensures.1 in
    let why = c.in_err-report_interfaces.field-0.0 in
    rw (counts_is nodes top c.requires, p.1, p.2)
    (reports_begun path (a ++ b ++ d ++ e) l _ _ _ _ why (reports_begun path (a ++ b ++ d) e _ _ _ _ why
    (reports_more path (a ++ b) d _ _ _ _ _ _ (tt {0}) (Err why)
    (reports_more path a b _ _ _ _ _ _ (tt {0}) _ (count_reported path _ _ _ _ _ _ _ c.count_leaves.ensures c.in_ok-report_crowd.ensures)
    (count_reported path _ _ _ _ _ _ _ c.count_inits.ensures c.in_ok-report_crowd-2.ensures))
    (count_reported path _ _ _ _ _ _ _ c.count_interfaces.ensures c.in_err-report_interfaces.ensures))))

pub returns-in_err-report_long : goal.returns-in_err-report_long
returns-in_err-report_long g c =
    let path = c.args.reporter.now.path.now in
    let top = table_view c.args.top.now in
    let nodes = map node_of c.args.nodes.now in
    let a = too_many (length (filter is_leaf nodes)) in
    let b = too_many (length (filter is_inner nodes)) in
    let d = too_many (length (keys_of (table_of (get_member (codes "interface") top)))) in
    let e = when (is_long (routes_at (codes "default-route") top)) TooMany in
    let l = all_found long_lists nodes in
    let p = err_from_is_err_and c.from_residual-in_err-report_long.result c.from_residual-in_err-report_long.ensures.1 in
    let why = c.in_err-report_long.field-0.0 in
    rw (counts_is nodes top c.requires, p.1, p.2)
    (reports_begun path (a ++ b ++ d ++ e) l _ _ _ _ why
    (reports_more path (a ++ b ++ d) e _ _ _ _ _ _ (tt {0}) (Err why)
    (reports_more path (a ++ b) d _ _ _ _ _ _ (tt {0}) _
    (reports_more path a b _ _ _ _ _ _ (tt {0}) _ (count_reported path _ _ _ _ _ _ _ c.count_leaves.ensures c.in_ok-report_crowd.ensures)
    (count_reported path _ _ _ _ _ _ _ c.count_inits.ensures
    c.in_ok-report_crowd-2.ensures)) (count_reported path _ _ _ _ _ _ _ c.count_interfaces.ensures c.in_ok-report_interfaces.ensures))
    c.in_err-report_long.ensures))
