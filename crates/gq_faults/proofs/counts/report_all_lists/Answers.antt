use Rattle.std.proofs.Common.{◌+◌, map, drop, Err, Ok}
use Rattle.std.proofs.lemmas.Result.{err_from_is_err_and}
use Rattle.gq_faults.specs.Found_lists.{all_found}
use Rattle.gq_faults.specs.Documents.{long_lists}
use Rattle.gq_faults.specs.Document_nodes.{node_of}
use Rattle.gq_faults.proofs.Reported_fault_prefixes.{reports_fewer, next_reported, none_reported, each_next, each_end}
use Rattle.gq_faults.proofs.counts.report_all_lists.Goals as goal

pub returns-in_err-report_lists : goal.returns-in_err-report_lists
returns-in_err-report_lists g c =
    let p = err_from_is_err_and c.from_residual.result c.from_residual.ensures.1 in
    let e = c.in_err-report_lists.field-0.0 in
    let f = long_lists in
    let xs = c.args.nodes.now in
    let i = c.loop-node.node-index in
    let x = c.node-item.result in
    rw (p.1, p.2) (c.loop-node.invariant _ _ (Err e)
    (reports_fewer c.args.reporter.now.path.now (all_found f (map node_of (drop i xs))) (f (node_of x)) (all_found f (map node_of (drop (i + 1) xs))) _ _ _ _ e
    (each_next f node_of xs i x c.loop-node-test.true c.node-item.is) c.in_err-report_lists.ensures))

pub loop-node-preserved : goal.loop-node-preserved
loop-node-preserved g c = λ after n r h.
    let f = long_lists in
    let xs = c.args.nodes.now in
    let i = c.loop-node.node-index in
    let x = c.node-item.result in
    c.loop-node.invariant after n r
    (next_reported c.args.reporter.now.path.now (all_found f (map node_of (drop i xs))) (f (node_of x)) (all_found f (map node_of (drop
    (i + 1) xs))) _ _ after _ _ n tt r
    (each_next f node_of xs i x c.loop-node-test.true c.node-item.is) c.in_ok-report_lists.ensures h)

pub returns : goal.returns
returns g c =
    let f = long_lists in
    let xs = c.args.nodes.now in
    let i = c.loop-node.node-index in
    c.loop-node.invariant _ _ (Ok tt)
    (none_reported c.args.reporter.now.path.now (all_found f (map node_of (drop i xs))) _ _ tt (each_end f node_of xs i c.loop-node-test.false))
