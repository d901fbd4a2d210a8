use Rattle.std.proofs.Common.{◌∙◌, ◌++◌, ap}
use Rattle.std.specs.Prelude.{decimal}
use Rattle.gq_why.proofs.Step_sum_lines.{words_put}
use Rattle.gq_why.proofs.step_sums.push_signal_words.Goals as goal

pub returns : goal.returns
returns c =
    let number = c.in_ok-push_number.ensures ∙ ap (λ n. c.extend_from_slice.new.self.items ++ decimal n) c.from.ensures in
    words_put c.extend_from_slice-3.result c.args.text.now.items c.extend_from_slice.new.self.items c.push_number.new.text.items
    c.extend_from_slice-2.new.self.items c.extend_from_slice-3.new.self.items (decimal c.args.signal) c.args.label.now
    c.in_ok-extend_from_slice.ensures.items number c.in_ok-extend_from_slice-2.ensures.items c.extend_from_slice-3.ensures.items
