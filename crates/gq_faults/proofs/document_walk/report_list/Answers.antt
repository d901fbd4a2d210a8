use Rattle.std.proofs.Common.{◌+◌, drop, Err, Ok}
use Rattle.std.proofs.lemmas.Result.{err_from_is_err_and}
use Rattle.toml.specs.View.{view, items_view}
use Rattle.gq_scenario.specs.Table_keys.{listed}
use Rattle.gq_scenario.specs.Document_tables.{route_keys}
use Rattle.gq_faults.specs.Documents.{in_table, in_tables, table_faults}
use Rattle.gq_faults.proofs.Reported_fault_prefixes.{reports_fewer, next_reported, none_reported}
use Rattle.gq_faults.proofs.Document_value_views.{values_next, values_end}
use Rattle.gq_faults.proofs.document_walk.report_list.Goals as goal

pub returns-in_err-report_listed : goal.returns-in_err-report_listed
returns-in_err-report_listed g c =
    let p = err_from_is_err_and c.from_residual.result c.from_residual.ensures.1 in
    let e = c.in_err-report_listed.field-0.0 in
    let f = table_faults route_keys in
    let vs = c.args.values.now in
    let i = c.loop-index.index in
    let v = c.index-values-index.result in
    rw (p.1, p.2) (c.loop-index.invariant _ _ (Err e)
    (reports_fewer c.args.reporter.now.path.now (in_tables f (listed (items_view (drop i vs)))) (in_table f (view v))
    (in_tables f (listed (items_view (drop (i + 1) vs)))) _ _ _ _ e
    (values_next f vs i v c.loop-index-test.true c.index-values-index.is) c.in_err-report_listed.ensures))

pub loop-index-preserved : goal.loop-index-preserved
loop-index-preserved g c = λ after n r h.
    let f = table_faults route_keys in
    let vs = c.args.values.now in
    let i = c.loop-index.index in
    let v = c.index-values-index.result in
    c.loop-index.invariant after n r
    (next_reported c.args.reporter.now.path.now (in_tables f (listed (items_view (drop i vs)))) (in_table f (view v))
    (in_tables f (listed (items_view (drop (i + 1) vs)))) _ _ after _ _ n tt r
    (values_next f vs i v c.loop-index-test.true c.index-values-index.is) c.in_ok-report_listed.ensures h)

pub returns : goal.returns
returns g c =
    let f = table_faults route_keys in
    let vs = c.args.values.now in
    let i = c.loop-index.index in
    c.loop-index.invariant _ _ (Ok tt)
    (none_reported c.args.reporter.now.path.now (in_tables f (listed (items_view (drop i vs)))) _ _ tt (values_end f vs i c.loop-index-test.false))
