use Rattle.std.proofs.Common.{Ok, ap, sym, ◌∙◌}
use Rattle.gq_model.specs.texts.Spelling.{Made}
use Rattle.gq_model.specs.declared.program.Instruction.TheVariants.{Operands}
use Rattle.gq_model.specs.declared.program.OperandStatement.TheVariants.{Numbered}
use Rattle.gq_model.specs.texts.Operands.{number_entry}
use Rattle.gq_code.proofs.Operand_parts.{number_ok}
use Rattle.gq_code.proofs.coded_operands.with_number.Goals as goal

pub returns-clause-read : goal.returns-clause-read
returns-clause-read c =
    let s = c.args.statement in
    let read = rw (c.entry-entry.ensures.width, c.entry-entry.ensures.low, c.entry-entry.ensures.high) at c.in_ok-number.ensures.number in
    number_ok (number_entry s).width (number_entry s).low (number_entry s).high (λ n. Made (Operands (Numbered s n))) c.args.bytes.now c.in_ok-number.rest.now
    c.in_ok-number.number read ∙ ap (λ i. Ok (i, c.in_ok-number.rest.now)) (sym c.instruction.ensures)
