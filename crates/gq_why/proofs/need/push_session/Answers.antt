use Rattle.std.proofs.Common.{◌∙◌, ◌++◌, ap, sym}
use Rattle.std.specs.Prelude.{option_map}
use Rattle.std.proofs.lemmas.Result.{on_ok_weaker}
use Rattle.gq_caps.specs.Known.{all_known}
use Rattle.gq_model.specs.rules.Kinds.{session_cost}
use Rattle.gq_why.specs.First_maxima.{top_in}
use Rattle.gq_why.specs.internal.Visitor_lines.{session_lines}
use Rattle.gq_why.proofs.Need_lines.{part_is, session_put}
use Rattle.gq_why.proofs.need.push_session.Goals as goal

pub returns : goal.returns
returns c =
    let r = c.args.resource in
    let i = c.args.interface.now in
    let point = c.in-Some.point in
    let cost = c.part-cost.ensures
    ∙ part_is r c.session_cost.result (λ r. session_cost r i (all_known point.bank)) c.session_cost.ensures.ram c.session_cost.ensures.caps in
    on_ok_weaker c.push_slots.result
    (λ e. session_put r i c.args.given c.part-cost.result c.object.result point.section point.number point.sum point.bank c.kinds.result.now cost
    c.object.ensures.object c.kinds.ensures.kinds c.args.text.now.items c.push_of-2.new.text.items c.push_point.new.text.items c.push_number.new.text.items
    c.end_line.new.text.items c.push_object.new.text.items c.push_slots.new.text.items c.in_ok-push_of.ensures c.in_ok-push_point.ensures
    c.in_ok-push_number.ensures c.in_ok-end_line.ensures c.in_ok-push_object.ensures e
    ∙ ap (λ o. c.args.text.now.items ++ session_lines r i c.args.given (option_map top_in o)) (sym c.in-Some.is)) c.push_slots.ensures
