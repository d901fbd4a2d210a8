use Rattle.gq_reports.proofs.Hexadecimal_digits.{code_text}
use Rattle.gq_reports.proofs.asm.hexadecimal_line.Goals as goal

pub returns : goal.returns
returns c = code_text _ _ c.args.bytes.now c.type_inv.bytes c.in_ok-push_str.ensures.bytes c.in_ok-line.ensures
