use Rattle.std.proofs.Common.{codes}
use Rattle.std.specs.Prelude.{decimal}
use Rattle.std.proofs.lemmas.Result.{on_ok_weaker}
use Rattle.gq_views.proofs.Printed_boxes.{line_of_three}
use Rattle.gq_views.proofs.graph.push_box.Goals as goal

pub returns : goal.returns
returns c =
    on_ok_weaker c.end_line.result
    (line_of_three c.args.depth (codes "subgraph cluster_") (decimal c.args.place) (codes " {") c.args.text.now.items c.push_indent.new.text.items
    c.extend_from_slice.new.self.items c.push_number.new.text.items c.extend_from_slice-2.new.self.items c.end_line.new.text.items
    c.in_ok-push_indent.ensures c.in_ok-extend_from_slice.ensures.items c.in_ok-push_number.ensures c.in_ok-extend_from_slice-2.ensures.items)
    c.end_line.ensures
