use Rattle.std.proofs.Common.{sym, ◌∙◌}
use Rattle.gq_asm.proofs.Pieces_at_start.{return_there, return_absent, return_empty}
use Rattle.gq_asm.proofs.source_lines.without_return.Goals as goal
use Rattle.gq_asm.proofs.source_lines.without_return.Goals.{else-not-is_empty-via-then-not-is_empty+else-line-eq13, else-not-is_empty-via-else-not-is_empty}

pub returns-then-line-eq13 : goal.returns-then-line-eq13
returns-then-line-eq13 c = return_there c.args.line.now c.if-line-eq13.true

pub returns : goal.returns
returns c =
    elim c.else-not-is_empty.branch [
      | else-not-is_empty-via-then-not-is_empty+else-line-eq13 w ↦ return_absent c.args.line.now w.if-line-eq13.false
      | else-not-is_empty-via-else-not-is_empty w ↦ return_empty c.args.line.now (sym c.is_empty.ensures ∙ w.if-not-is_empty.false)
    ]
