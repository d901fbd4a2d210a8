-- The label of a leaf.
use Rattle.std.proofs.Common.{◌≡◌, IfSome, Option, subst, sym}
use Rattle.gq_model.specs.machine.Scenario.{Component, components}
use Rattle.gq_resolve.specs.NodeTables.{node_rows}
use Rattle.gq_resolve.proofs.Node_table_rows.{leaf_at, label_of_node}
use Rattle.gq_traces.proofs.Leaf_labels.{label_reported}
use Rattle.gq_traces.proofs.session_lines.label_of.Goals as goal

pub returns-clause-label : goal.returns-clause-label
returns-clause-label c =
    let t = c.args.table.now in
    let leaf = leaf_at (node_rows t) c.node.result c.args.leaf (components t) c.requires c.node.ensures.node in
    let label = label_of_node (node_rows t) c.node.result leaf.component c.label.result.now leaf.node c.label.ensures.label in
    label_reported (components t) c.args.leaf c.label.result.now c.requires
    (subst (λ (o : Option Component). IfSome o (λ d. c.label.result.now ≡ d.label)) (sym leaf.there) label)
