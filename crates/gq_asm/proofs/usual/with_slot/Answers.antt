use Rattle.std.proofs.Common.{false, sym, subst}
use Rattle.gq_model.specs.declared.program.Instruction.{Instruction}
use Rattle.gq_program.specs.declared.shapes.Shape.TheVariants.{Slot}
use Rattle.gq_program.specs.Statement_table.{shape_of, slot_instruction}
use Rattle.gq_asm.specs.internal.Words_operands.{Completes}
use Rattle.gq_asm.proofs.Usual_lines.{slot_completes}
use Rattle.gq_asm.proofs.usual.with_slot.Goals as goal

pub returns : goal.returns
returns c =
    let st = c.args.statement in
    subst (λ (i : Instruction). Completes c.args.text.now (shape_of (Slot st)) i c.in_ok-word.rest.now) (sym c.instruction.ensures)
    (slot_completes c.args.text.now c.in_ok-word.word.now c.in_ok-word.rest.now false c.in_ok-place.place (slot_instruction st) c.in_ok-word.ensures
    (sym c.in_ok-place.ensures))
