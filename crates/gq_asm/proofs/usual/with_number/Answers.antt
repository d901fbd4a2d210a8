use Rattle.std.proofs.Common.{sym, subst}
use Rattle.gq_model.specs.declared.program.Instruction.{Instruction}
use Rattle.gq_program.specs.declared.shapes.Shape.TheVariants.{Number}
use Rattle.gq_model.specs.declared.program.Instruction.TheVariants.{Operands}
use Rattle.gq_model.specs.declared.program.OperandStatement.TheVariants.{Numbered}
use Rattle.gq_model.specs.texts.Operands.{number_entry}
use Rattle.gq_program.specs.Statement_table.{shape_of}
use Rattle.gq_asm.specs.internal.Words_operands.{Completes}
use Rattle.gq_asm.proofs.Usual_lines.{number_completes}
use Rattle.gq_asm.proofs.usual.with_number.Goals as goal

pub returns : goal.returns
returns c =
    let st = c.args.statement in
    let n = c.in_ok-number.number in
    let e = sym (rw (c.entry-entry.ensures.low, c.entry-entry.ensures.high) at c.in_ok-number.ensures.number) in
    subst (λ (i : Instruction). Completes c.args.text.now (shape_of (Number st)) i c.in_ok-word.rest.now) (sym c.instruction.ensures)
    (number_completes c.args.text.now c.in_ok-word.word.now c.in_ok-word.rest.now (number_entry st).width (number_entry st).low (number_entry st).high n
    (λ n. Operands (Numbered st n)) c.in_ok-word.ensures e)
