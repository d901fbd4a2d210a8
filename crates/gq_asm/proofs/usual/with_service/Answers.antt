use Rattle.std.proofs.Common.{ℕ, List, sym, subst}
use Rattle.gq_model.specs.declared.program.Instruction.TheVariants as program
use Rattle.gq_program.specs.declared.shapes.Shape.TheVariants.{Open}
use Rattle.gq_program.specs.Statement_table.{shape_of}
use Rattle.gq_asm.specs.internal.Words_operands.{Completes}
use Rattle.gq_asm.proofs.Usual_lines.{named, on_blank, service_completes}
use Rattle.gq_asm.proofs.usual.with_service.Goals as goal

pub returns : goal.returns
returns c =
    let text = c.args.text.now in
    let rest = c.in_ok-word.rest.now in
    let is = on_blank text c.in_ok-words.words.now _ c.in_ok-words.ensures c.split_plain.ensures.split in
    let next = on_blank c.split_plain.result.1.now c.in_ok-words-2.words.now _ c.in_ok-words-2.ensures c.split_plain-2.ensures.split in
    let name = named c.split_plain-2.result.0.now c.in_ok-service.service c.in_ok-service.ensures in
    subst (λ (v : List ℕ). Completes text (shape_of Open) (program.Open c.in_ok-place.place v c.in_ok-number.number) rest) name.1
    (service_completes text c.split_plain.result.0.now c.split_plain.result.1.now c.split_plain-2.result.0.now c.split_plain-2.result.1.now
    c.in_ok-word.word.now rest c.in_ok-number.number c.in_ok-place.place is c.split_plain.ensures.plain (sym c.in_ok-place.ensures) next
    c.split_plain-2.ensures.plain name.0 c.in_ok-word.ensures (sym c.in_ok-number.ensures.number))
