use Rattle.std.proofs.Common.{◌∙◌, ◌++◌, ap, ap₂, sym}
use Rattle.std.specs.Prelude.{slice_index}
use Rattle.std.proofs.lemmas.Result.{on_ok_weaker}
use Rattle.gq_views.specs.Tree.{arrow, arrow_to, in_quotes}
use Rattle.gq_views.proofs.Printed_boxes.{arrow_put}
use Rattle.gq_views.proofs.graph.push_service.Goals as goal

pub returns : goal.returns
returns c =
    let t = c.args.text.now.items in
    let from = c.args.from in
    let places = c.args.places.now in
    let server = c.place_of.ensures ∙ ap (λ y. slice_index places y) c.index.ensures in
    let same = ap₂ (λ to name. t ++ arrow from to (in_quotes name)) server c.as_bytes.ensures.bytes in
    let there = ap (λ o. t ++ arrow_to places from o (in_quotes c.args.service.now)) (sym c.in-Some.is) in
    on_ok_weaker c.end_line.result
    (λ e. arrow_put from c.place_of.result c.as_bytes.result.now t c.push_indent.new.text.items c.push_node.new.text.items c.extend_from_slice.new.self.items
    c.push_node-2.new.text.items c.extend_from_slice-2.new.self.items c.extend_from_slice-3.new.self.items c.extend_from_slice-4.new.self.items
    c.end_line.new.text.items c.in_ok-push_indent.ensures c.in_ok-push_node.ensures c.in_ok-extend_from_slice.ensures.items c.in_ok-push_node-2.ensures
    c.in_ok-extend_from_slice-2.ensures.items c.in_ok-extend_from_slice-3.ensures.items c.in_ok-extend_from_slice-4.ensures.items e ∙ (same ∙ there))
    c.end_line.ensures
