use Rattle.std.proofs.Common.{◌∙◌, ◌<◌, ◌++◌, ap, arith, length}
use Rattle.std.proofs.lemmas.Bool.Decides.{nat_tests}
use Rattle.gq_views.specs.Tree.{point_line}
use Rattle.gq_views.proofs.Printed_boxes.{no_point}
use Rattle.gq_views.proofs.graph.push_point.Goals as goal

pub returns-then-not-is_empty : goal.returns-then-not-is_empty
returns-then-not-is_empty c =
    let t = c.args.text.now.items in
    let test = c.is_empty.ensures in
    let is = c.if-not-is_empty.true in
    let some : 0 < length c.nodes.result.now = grind (arith, nat_tests, test, is) in
    no_point c.args.depth c.args.place c.nodes.result.now some t ∙ ap (λ n. t ++ point_line c.args.depth c.args.place n) c.nodes.ensures
