use Rattle.gq_asm.proofs.Usual_lines.{usual_line, on_some}
use Rattle.gq_asm.proofs.usual.usual_line.Goals as goal

pub returns : goal.returns
returns c =
    on_some c.completed.result _ _ (λ p h.
    usual_line c.args.text.now c.unindented.result.now c.in_ok-shape.operands.now p.1.now c.in_ok-shape.shape p.0 c.unindented.ensures
    c.in_ok-shape.ensures h) c.completed.ensures
