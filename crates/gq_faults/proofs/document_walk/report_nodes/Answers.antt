use Rattle.std.proofs.Common.{◌+◌, map, drop, Err, Ok, option_map}
use Rattle.std.proofs.lemmas.Result.{err_from_is_err_and}
use Rattle.toml.specs.View.{table_view}
use Rattle.gq_reader.specs.Key_rules.{entries_or_none}
use Rattle.gq_scenario.specs.Document.{keys_of}
use Rattle.gq_scenario.specs.Component_trees.{version_number}
use Rattle.gq_faults.specs.Found_lists.{all_found}
use Rattle.gq_faults.specs.Documents.{node_faults}
use Rattle.gq_faults.specs.Document_nodes.{node_of}
use Rattle.gq_faults.proofs.Reported_fault_prefixes.{reports_fewer, next_reported, none_reported, each_next, each_end}
use Rattle.gq_faults.proofs.document_walk.report_nodes.Goals as goal

pub returns-in_err-report_node : goal.returns-in_err-report_node
returns-in_err-report_node g c =
    let p = err_from_is_err_and c.from_residual.result c.from_residual.ensures.1 in
    let e = c.in_err-report_node.field-0.0 in
    let f = node_faults (version_number c.args.version) (keys_of (entries_or_none (option_map (λ t. table_view t.now) c.args.interfaces))) in
    let xs = c.args.nodes.now in
    let i = c.loop-node.node-index in
    let x = c.node-item.result in
    rw (p.1, p.2) (c.loop-node.invariant _ _ (Err e)
    (reports_fewer c.args.reporter.now.path.now (all_found f (map node_of (drop i xs))) (f (node_of x)) (all_found f (map node_of (drop (i + 1) xs))) _ _ _ _ e
    (each_next f node_of xs i x c.loop-node-test.true c.node-item.is) c.in_err-report_node.ensures))

pub loop-node-preserved : goal.loop-node-preserved
loop-node-preserved g c = λ after n r h.
    let f = node_faults (version_number c.args.version) (keys_of (entries_or_none (option_map (λ t. table_view t.now) c.args.interfaces))) in
    let xs = c.args.nodes.now in
    let i = c.loop-node.node-index in
    let x = c.node-item.result in
    c.loop-node.invariant after n r
    (next_reported c.args.reporter.now.path.now (all_found f (map node_of (drop i xs))) (f (node_of x)) (all_found f (map node_of (drop
    (i + 1) xs))) _ _ after _ _ n tt r
    (each_next f node_of xs i x c.loop-node-test.true c.node-item.is) c.in_ok-report_node.ensures h)

pub returns : goal.returns
returns g c =
    let f = node_faults (version_number c.args.version) (keys_of (entries_or_none (option_map (λ t. table_view t.now) c.args.interfaces))) in
    let xs = c.args.nodes.now in
    let i = c.loop-node.node-index in
    c.loop-node.invariant _ _ (Ok tt)
    (none_reported c.args.reporter.now.path.now (all_found f (map node_of (drop i xs))) _ _ tt (each_end f node_of xs i c.loop-node-test.false))
