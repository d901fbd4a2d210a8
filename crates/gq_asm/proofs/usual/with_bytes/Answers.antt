use Rattle.std.proofs.Common.{true, sym, subst}
use Rattle.gq_model.specs.declared.program.Instruction.{Instruction}
use Rattle.gq_program.specs.declared.shapes.Shape.TheVariants.{Bytes}
use Rattle.gq_program.specs.Statement_table.{shape_of, bytes_instruction}
use Rattle.gq_asm.specs.internal.Words_operands.{Completes}
use Rattle.gq_asm.proofs.Usual_lines.{slot_completes}
use Rattle.gq_asm.proofs.usual.with_bytes.Goals as goal

pub returns : goal.returns
returns c =
    let st = c.args.statement in
    subst (λ (i : Instruction). Completes c.args.text.now (shape_of (Bytes st)) i c.in_ok-word.rest.now) (sym c.instruction.ensures)
    (slot_completes c.args.text.now c.in_ok-word.word.now c.in_ok-word.rest.now true c.in_ok-place.place (bytes_instruction st) c.in_ok-word.ensures
    (sym c.in_ok-place.ensures))
