use Rattle.std.proofs.Common.{◌+◌, map, drop, Err, Ok}
use Rattle.std.proofs.lemmas.Result.{err_from_is_err_and}
use Rattle.toml.specs.View.{table_view}
use Rattle.gq_reader.specs.Key_rules.{rule_of}
use Rattle.gq_faults.specs.Found_lists.{all_found}
use Rattle.gq_faults.specs.Documents.{bad_of}
use Rattle.gq_faults.proofs.Reported_fault_prefixes.{reports_fewer, next_reported, none_reported, each_next, each_end}
use Rattle.gq_faults.proofs.table_faults.report_bad_values.Goals as goal

pub returns-in_err-report_bad : goal.returns-in_err-report_bad
returns-in_err-report_bad g c =
    let p = err_from_is_err_and c.from_residual.result c.from_residual.ensures.1 in
    let e = c.in_err-report_bad.field-0.0 in
    let f = bad_of (table_view c.args.table.now) in
    let xs = c.args.rules.now in
    let i = c.loop-rule.rule-index in
    let x = c.rule-item.result in
    rw (p.1, p.2) (c.loop-rule.invariant _ _ (Err e)
    (reports_fewer c.args.reporter.now.path.now (all_found f (map rule_of (drop i xs))) (f (rule_of x)) (all_found f (map rule_of (drop (i + 1) xs))) _ _ _ _ e
    (each_next f rule_of xs i x c.loop-rule-test.true c.rule-item.is) c.in_err-report_bad.ensures))

pub loop-rule-preserved : goal.loop-rule-preserved
loop-rule-preserved g c = λ after n r h.
    let f = bad_of (table_view c.args.table.now) in
    let xs = c.args.rules.now in
    let i = c.loop-rule.rule-index in
    let x = c.rule-item.result in
    c.loop-rule.invariant after n r
    (next_reported c.args.reporter.now.path.now (all_found f (map rule_of (drop i xs))) (f (rule_of x)) (all_found f (map rule_of (drop
    (i + 1) xs))) _ _ after _ _ n tt r
    (each_next f rule_of xs i x c.loop-rule-test.true c.rule-item.is) c.in_ok-report_bad.ensures h)

pub returns : goal.returns
returns g c =
    let f = bad_of (table_view c.args.table.now) in
    let xs = c.args.rules.now in
    let i = c.loop-rule.rule-index in
    c.loop-rule.invariant _ _ (Ok tt)
    (none_reported c.args.reporter.now.path.now (all_found f (map rule_of (drop i xs))) _ _ tt (each_end f rule_of xs i c.loop-rule-test.false))
