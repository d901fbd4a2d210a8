use Rattle.std.proofs.Common.{◌++◌, Err, map}
use Rattle.std.proofs.lemmas.Result.{err_from_is_err_and}
use Rattle.toml.specs.View.{table_view}
use Rattle.gq_reader.specs.Key_rules.{rule_of}
use Rattle.gq_faults.specs.Found_lists.{all_found}
use Rattle.gq_faults.specs.Documents.{missing_of, bad_of, unknown_keys}
use Rattle.gq_faults.proofs.Reported_fault_prefixes.{reports_begun, reports_more}
use Rattle.gq_faults.proofs.table_faults.report_table.Goals as goal

pub returns : goal.returns
returns g c =
    let path = c.args.reporter.now.path.now in
    let entries = table_view c.args.table.now in
    let rules = map rule_of c.args.rules.now in
    let u = unknown_keys rules entries in
    let m = all_found (missing_of entries) rules in
    reports_more path (u ++ m) (all_found (bad_of entries) rules) _ _ _ _ _ _ tt _
    (reports_more path u m _ _ _ _ _ _ tt _ c.in_ok-report_unknown_keys.ensures c.in_ok-report_missing_keys.ensures) c.report_bad_values.ensures

pub returns-in_err-report_unknown_keys : goal.returns-in_err-report_unknown_keys
returns-in_err-report_unknown_keys g c =
    let path = c.args.reporter.now.path.now in
    let entries = table_view c.args.table.now in
    let rules = map rule_of c.args.rules.now in
    let u = unknown_keys rules entries in
    let m = all_found (missing_of entries) rules in
    let b = all_found (bad_of entries) rules in
    let e = c.in_err-report_unknown_keys.field-0.0 in
    let p = err_from_is_err_and c.from_residual.result c.from_residual.ensures.1 in
    rw (p.1, p.2) (reports_begun path (u ++ m) b _ _ _ _ e (reports_begun path u m _ _ _ _ e c.in_err-report_unknown_keys.ensures))

pub returns-in_err-report_missing_keys : goal.returns-in_err-report_missing_keys
returns-in_err-report_missing_keys g c =
    let path = c.args.reporter.now.path.now in
    let entries = table_view c.args.table.now in
    let rules = map rule_of c.args.rules.now in
    let u = unknown_keys rules entries in
    let m = all_found (missing_of entries) rules in
    let b = all_found (bad_of entries) rules in
    let e = c.in_err-report_missing_keys.field-0.0 in
    let p = err_from_is_err_and c.from_residual-in_err-report_missing_keys.result c.from_residual-in_err-report_missing_keys.ensures.1 in
    rw (p.1, p.2) (reports_begun path (u ++ m) b _ _ _ _ e
    (reports_more path u m _ _ _ _ _ _ tt (Err e) c.in_ok-report_unknown_keys.ensures c.in_err-report_missing_keys.ensures))
