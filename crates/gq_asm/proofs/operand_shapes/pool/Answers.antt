use Rattle.std.proofs.Common.{Ok, Err}
use Rattle.std.proofs.lemmas.Result.{err_from_is_err_and}
use Rattle.gq_model.specs.texts.Letters.{words}
use Rattle.gq_model.specs.declared.program.Instruction.TheVariants.{MakePool}
use Rattle.gq_asm.proofs.Statement_reads.{pool_err, pool_then, end_ok, end_err}
use Rattle.gq_asm.proofs.operand_shapes.pool.Goals as goal

pub returns-in_err-count : goal.returns-in_err-count
returns-in_err-count c =
    let p = err_from_is_err_and c.from_residual-in_err-count.result c.from_residual-in_err-count.ensures.1 in
    rw (p.1, p.2) (pool_err c.args.after.now (words c.args.after.now) (words c.in_ok-place.rest.now) (words c.in_ok-size.rest.now) c.in_ok-place.place
    c.in_ok-size.size c.in_err-count.field-0.0 c.in_ok-place.ensures c.in_ok-size.ensures.read c.in_err-count.ensures.read)

pub returns-in_err-at_end : goal.returns-in_err-at_end
returns-in_err-at_end c =
    let p = err_from_is_err_and c.from_residual-in_err-at_end.result c.from_residual-in_err-at_end.ensures.1 in
    let i = MakePool c.in_ok-place.place c.in_ok-size.size c.in_ok-count.count in
    rw (p.1, p.2) (pool_then c.args.after.now (words c.args.after.now) (words c.in_ok-place.rest.now) (words c.in_ok-size.rest.now)
    (words c.in_ok-count.rest.now) c.in_ok-place.place c.in_ok-size.size c.in_ok-count.count (Err c.in_err-at_end.field-0.0)
    c.in_ok-place.ensures c.in_ok-size.ensures.read c.in_ok-count.ensures.read
    (end_err c.args.after.now i (words c.in_ok-count.rest.now) c.in_err-at_end.field-0.0 c.in_err-at_end.ensures))

pub returns : goal.returns
returns c =
    let i = MakePool c.in_ok-place.place c.in_ok-size.size c.in_ok-count.count in
    pool_then c.args.after.now (words c.args.after.now) (words c.in_ok-place.rest.now) (words c.in_ok-size.rest.now) (words c.in_ok-count.rest.now)
    c.in_ok-place.place c.in_ok-size.size c.in_ok-count.count (Ok i) c.in_ok-place.ensures c.in_ok-size.ensures.read c.in_ok-count.ensures.read
    (end_ok c.args.after.now i (words c.in_ok-count.rest.now) c.in_ok-at_end.ensures)
