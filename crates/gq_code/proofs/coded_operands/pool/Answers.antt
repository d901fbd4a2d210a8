use Rattle.std.proofs.Common.{ℕ, ◌∙◌, false}
use Rattle.std.proofs.lemmas.Result.{err_from_is_err_and}
use Rattle.gq_model.specs.declared.program.OperandSlot.{OperandSlot}
use Rattle.gq_model.specs.declared.program.Instruction.TheVariants.{MakePool}
use Rattle.gq_model.specs.texts.Spelling.{Shape, Made, Number}
use Rattle.gq_code.proofs.Operand_parts.{slot_ok, number_ok, number_err}
use Rattle.gq_code.proofs.coded_operands.pool.Goals as goal

abbrev counted : OperandSlot → ℕ → Shape
counted place size = Number 2 1 1024 (λ count. Made (MakePool place size count))

abbrev sized : OperandSlot → Shape
sized place = Number 2 1 2048 (counted place)

pub returns-in_err-size-clause-read : goal.returns-in_err-size-clause-read
returns-in_err-size-clause-read c =
    let p = err_from_is_err_and c.from_residual-in_err-size.result c.from_residual-in_err-size.ensures.1 in
    rw (p.1, p.2) (slot_ok false sized c.args.bytes.now c.in_ok-place.rest.now c.in_ok-place.place c.in_ok-place.ensures.place ∙
    number_err 2 1 2048 (counted c.in_ok-place.place) c.in_ok-place.rest.now c.in_err-size.field-0.0 c.in_err-size.ensures.number)

pub returns-in_err-count-clause-read : goal.returns-in_err-count-clause-read
returns-in_err-count-clause-read c =
    let p = err_from_is_err_and c.from_residual-in_err-count.result c.from_residual-in_err-count.ensures.1 in
    rw (p.1, p.2) (slot_ok false sized c.args.bytes.now c.in_ok-place.rest.now c.in_ok-place.place c.in_ok-place.ensures.place ∙
    (number_ok 2 1 2048 (counted c.in_ok-place.place) c.in_ok-place.rest.now c.in_ok-size.rest.now c.in_ok-size.size c.in_ok-size.ensures.number ∙
    number_err 2 1 1024 (λ count. Made (MakePool c.in_ok-place.place c.in_ok-size.size count)) c.in_ok-size.rest.now c.in_err-count.field-0.0
    c.in_err-count.ensures.number))

pub returns-clause-read : goal.returns-clause-read
returns-clause-read c =
    slot_ok false sized c.args.bytes.now c.in_ok-place.rest.now c.in_ok-place.place c.in_ok-place.ensures.place ∙
    (number_ok 2 1 2048 (counted c.in_ok-place.place) c.in_ok-place.rest.now c.in_ok-size.rest.now c.in_ok-size.size c.in_ok-size.ensures.number ∙
    number_ok 2 1 1024 (λ count. Made (MakePool c.in_ok-place.place c.in_ok-size.size count)) c.in_ok-size.rest.now c.in_ok-count.rest.now
    c.in_ok-count.count c.in_ok-count.ensures.number)
