use Rattle.std.proofs.Common.{Ok, Err}
use Rattle.std.proofs.lemmas.Result.{err_from_is_err_and}
use Rattle.gq_model.specs.texts.Letters.{words}
use Rattle.gq_program.specs.Statement_table.{bytes_instruction}
use Rattle.gq_asm.proofs.Statement_reads.{bytes_err, bytes_then, end_ok, end_err}
use Rattle.gq_asm.proofs.operand_shapes.with_bytes.Goals as goal

pub returns-in_err-place : goal.returns-in_err-place
returns-in_err-place c =
    let p = err_from_is_err_and c.from_residual.result c.from_residual.ensures.1 in
    rw (p.1, p.2) (bytes_err c.args.after.now c.args.statement (words c.args.after.now) c.in_err-place.field-0.0 c.in_err-place.ensures)

pub returns-in_err-at_end : goal.returns-in_err-at_end
returns-in_err-at_end c =
    let p = err_from_is_err_and c.from_residual-in_err-at_end.result c.from_residual-in_err-at_end.ensures.1 in
    let i = bytes_instruction c.args.statement c.in_ok-place.place in
    rw (p.1, p.2) (bytes_then c.args.after.now c.args.statement (words c.args.after.now) (words c.in_ok-place.rest.now) c.in_ok-place.place
    (Err c.in_err-at_end.field-0.0) c.in_ok-place.ensures
    (end_err c.args.after.now i (words c.in_ok-place.rest.now) c.in_err-at_end.field-0.0 c.in_err-at_end.ensures))

pub returns : goal.returns
returns c =
    let i = bytes_instruction c.args.statement c.in_ok-place.place in
    rw c.instruction.ensures (bytes_then c.args.after.now c.args.statement (words c.args.after.now) (words c.in_ok-place.rest.now) c.in_ok-place.place
    (Ok i) c.in_ok-place.ensures (end_ok c.args.after.now i (words c.in_ok-place.rest.now) c.in_ok-at_end.ensures))
