use Rattle.std.proofs.Common.{Ok, ap, sym, ◌∙◌, false}
use Rattle.std.proofs.lemmas.Result.{err_from_is_err_and}
use Rattle.gq_model.specs.declared.program.OperandSlot.{OperandSlot}
use Rattle.gq_model.specs.texts.Spelling.{Made, Number}
use Rattle.gq_program.specs.Statement_table.{amount_low, amount_high, amount_instruction}
use Rattle.gq_code.proofs.Operand_parts.{slot_ok, number_ok, number_err}
use Rattle.gq_code.proofs.coded_operands.with_amount.Goals as goal

pub returns-in_err-number-clause-read : goal.returns-in_err-number-clause-read
returns-in_err-number-clause-read c =
    let s = c.args.statement in
    let p = err_from_is_err_and c.from_residual-in_err-number.result c.from_residual-in_err-number.ensures.1 in
    let go = λ (place : OperandSlot). Number 4 (amount_low s) (amount_high s) (λ n. Made (amount_instruction s place n)) in
    let read = rw (c.low.ensures, c.high.ensures) at c.in_err-number.ensures.number in
    rw (p.1, p.2) (slot_ok false go c.args.bytes.now c.in_ok-place.rest.now c.in_ok-place.place c.in_ok-place.ensures.place ∙
    number_err 4 (amount_low s) (amount_high s) (λ n. Made (amount_instruction s c.in_ok-place.place n)) c.in_ok-place.rest.now c.in_err-number.field-0.0 read)

pub returns-clause-read : goal.returns-clause-read
returns-clause-read c =
    let s = c.args.statement in
    let go = λ (place : OperandSlot). Number 4 (amount_low s) (amount_high s) (λ n. Made (amount_instruction s place n)) in
    let read = rw (c.low.ensures, c.high.ensures) at c.in_ok-number.ensures.number in
    slot_ok false go c.args.bytes.now c.in_ok-place.rest.now c.in_ok-place.place c.in_ok-place.ensures.place ∙
    (number_ok 4 (amount_low s) (amount_high s) (λ n. Made (amount_instruction s c.in_ok-place.place n)) c.in_ok-place.rest.now c.in_ok-number.rest.now
    c.in_ok-number.number read ∙ ap (λ i. Ok (i, c.in_ok-number.rest.now)) (sym c.instruction.ensures))
