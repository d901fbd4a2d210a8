use Rattle.std.proofs.Common.{sym, subst}
use Rattle.gq_model.specs.declared.program.Instruction.{Instruction}
use Rattle.gq_program.specs.declared.shapes.Shape.TheVariants.{Amount}
use Rattle.gq_program.specs.Statement_table.{shape_of, amount_low, amount_high, amount_instruction}
use Rattle.gq_asm.specs.internal.Words_operands.{Completes}
use Rattle.gq_asm.proofs.Usual_lines.{amount_completes, on_blank}
use Rattle.gq_asm.proofs.usual.with_amount.Goals as goal

pub returns : goal.returns
returns c =
    let st = c.args.statement in
    let n = c.in_ok-number.number in
    let e = sym (rw (c.low.ensures, c.high.ensures) at c.in_ok-number.ensures.number) in
    let is = on_blank c.args.text.now c.in_ok-words.words.now _ c.in_ok-words.ensures c.split_plain.ensures.split in
    subst (λ (i : Instruction). Completes c.args.text.now (shape_of (Amount st)) i c.in_ok-word.rest.now) (sym c.instruction.ensures)
    (amount_completes c.args.text.now c.split_plain.result.0.now c.split_plain.result.1.now c.in_ok-word.word.now c.in_ok-word.rest.now (amount_low st)
    (amount_high st) n c.in_ok-place.place (amount_instruction st) is c.split_plain.ensures.plain (sym c.in_ok-place.ensures) c.in_ok-word.ensures e)
