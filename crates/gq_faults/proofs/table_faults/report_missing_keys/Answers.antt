use Rattle.std.proofs.Common.{◌+◌, map, drop, Err, Ok}
use Rattle.std.proofs.lemmas.Result.{err_from_is_err_and}
use Rattle.toml.specs.View.{table_view}
use Rattle.gq_reader.specs.Key_rules.{rule_of}
use Rattle.gq_faults.specs.Found_lists.{all_found}
use Rattle.gq_faults.specs.Documents.{missing_of}
use Rattle.gq_faults.proofs.Reported_fault_prefixes.{reports_fewer, next_reported, none_reported, each_next, each_end}
use Rattle.gq_faults.proofs.table_faults.report_missing_keys.Goals as goal

pub returns-in_err-report_missing : goal.returns-in_err-report_missing
returns-in_err-report_missing g c =
    let p = err_from_is_err_and c.from_residual.result c.from_residual.ensures.1 in
    let e = c.in_err-report_missing.field-0.0 in
    let f = missing_of (table_view c.args.table.now) in
    let xs = c.args.rules.now in
    let i = c.loop-rule.rule-index in
    let x = c.rule-item.result in
    rw (p.1, p.2) (c.loop-rule.invariant _ _ (Err e)
    (reports_fewer c.args.reporter.now.path.now (all_found f (map rule_of (drop i xs))) (f (rule_of x)) (all_found f (map rule_of (drop (i + 1) xs))) _ _ _ _ e
    (each_next f rule_of xs i x c.loop-rule-test.true c.rule-item.is) c.in_err-report_missing.ensures))

pub loop-rule-preserved : goal.loop-rule-preserved
loop-rule-preserved g c = λ after n r h.
    let f = missing_of (table_view c.args.table.now) in
    let xs = c.args.rules.now in
    let i = c.loop-rule.rule-index in
    let x = c.rule-item.result in
    c.loop-rule.invariant after n r
    (next_reported c.args.reporter.now.path.now (all_found f (map rule_of (drop i xs))) (f (rule_of x)) (all_found f (map rule_of (drop
    (i + 1) xs))) _ _ after _ _ n tt r
    (each_next f rule_of xs i x c.loop-rule-test.true c.rule-item.is) c.in_ok-report_missing.ensures h)

pub returns : goal.returns
returns g c =
    let f = missing_of (table_view c.args.table.now) in
    let xs = c.args.rules.now in
    let i = c.loop-rule.rule-index in
    c.loop-rule.invariant _ _ (Ok tt)
    (none_reported c.args.reporter.now.path.now (all_found f (map rule_of (drop i xs))) _ _ tt (each_end f rule_of xs i c.loop-rule-test.false))
