use Rattle.std.proofs.Common.{◌∙◌, ◌++◌, ap}
use Rattle.gq_outcomes.proofs.Text_lines.{lines_more}
use Rattle.gq_outcomes.proofs.text.push_lines.Goals as goal

pub loop-lines-preserved : goal.loop-lines-preserved
loop-lines-preserved c =
    let l = c.loop-lines in
    lines_more (λ v. v.items) c.args.said.now l.lines-index c.lines-item.result l.text.items c.extend_from_slice.new.self.items c.loop-lines-test.true
    c.lines-item.is (c.in_ok-extend_from_slice.ensures.items ∙ ap (λ t. l.text.items ++ t) c.as_slice.ensures.value)
    ∙ l.invariant
