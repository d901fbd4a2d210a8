use Rattle.std.proofs.Common.{◌∙◌, ◌++◌, ap, arith, codes}
use Rattle.gq_model.specs.machine.Accounts.{leaf_count}
use Rattle.gq_sizes.specs.Size_text.{node_line}
use Rattle.gq_sizes.specs.internal.Printed_sizes.{node_lines}
use Rattle.gq_sizes.proofs.node_lines.push_tree.Goals as goal

pub push_nodes-requires : goal.push_nodes-requires
push_nodes-requires c = omega (arith, ap leaf_count c.nodes.ensures, c.bounds.ensures.count)

pub returns : goal.returns
returns c all is =
    let root = c.of_root.ensures all is in
    let first =
    c.in_ok-push_node.ensures
    ∙ (λ j. c.args.text.now.items ++ node_line (c.version-version.ensures j) (codes "init") (c.total.ensures j) (root.0 j) (root.1 j)) in
    c.in_ok-push_nodes.ensures.lines all is ∙ (λ j. first j ++ node_lines (c.version-version.ensures j) all (codes "init") 0 (c.nodes.ensures j))
