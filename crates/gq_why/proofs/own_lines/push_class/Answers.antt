use Rattle.std.proofs.lemmas.Result.{on_ok_weaker}
use Rattle.gq_tariff.specs.Prices.{class_size}
use Rattle.gq_why.proofs.Lines_of_own_slots.{class_put}
use Rattle.gq_why.proofs.own_lines.push_class.Goals as goal

pub returns : goal.returns
returns c =
    on_ok_weaker c.end_line.result
    (class_put c.args.resource (class_size c.args.class) c.args.number c.args.count c.places_cost.result c.size.result c.if-count-eq0.false
    c.places_cost.ensures c.size.ensures c.args.text.now.items c.push_point.new.text.items c.push_number.new.text.items c.extend_from_slice.new.self.items
    c.push_number-2.new.text.items c.extend_from_slice-2.new.self.items c.push_number-3.new.text.items c.end_line.new.text.items c.in_ok-push_point.ensures
    c.in_ok-push_number.ensures c.in_ok-extend_from_slice.ensures.items c.in_ok-push_number-2.ensures c.in_ok-extend_from_slice-2.ensures.items
    c.in_ok-push_number-3.ensures) c.end_line.ensures
