use Rattle.std.proofs.Common.{◌∙◌, ◌++◌, ap₂, codes}
use Rattle.std.specs.Prelude.{option_map}
use Rattle.std.proofs.lemmas.Result.{on_ok_weaker}
use Rattle.gq_views.specs.Listing.{line}
use Rattle.gq_views.specs.Tree.{in_quotes, leaf_label, node_name}
use Rattle.gq_views.proofs.Printed_boxes.{box_of_leaf}
use Rattle.gq_views.proofs.graph.push_leaf.Goals as goal

pub returns : goal.returns
returns c =
    let d = c.args.depth in
    let t = c.args.text.now.items in
    let n = c.args.at.node in
    let reported = ap₂ (λ v b. t ++ line d (node_name n ++ codes " [label = " ++ in_quotes (leaf_label v c.args.leaf.now b) ++ codes "];"))
    c.version.ensures c.budget.ensures in
    on_ok_weaker c.end_line.result
    (λ e. box_of_leaf d n (leaf_label _ c.args.leaf.now (option_map (λ b. b.now) c.budget.result)) t c.push_indent.new.text.items c.push_node.new.text.items
    c.extend_from_slice.new.self.items c.push_leaf_label.new.text.items c.extend_from_slice-2.new.self.items c.end_line.new.text.items
    c.in_ok-push_indent.ensures c.in_ok-push_node.ensures c.in_ok-extend_from_slice.ensures.items c.in_ok-push_leaf_label.ensures
    c.in_ok-extend_from_slice-2.ensures.items e ∙ reported)
    c.end_line.ensures
