use Rattle.std.proofs.Common.{Ok, Err}
use Rattle.std.proofs.lemmas.Result.{err_from_is_err_and}
use Rattle.gq_model.specs.texts.Letters.{words}
use Rattle.gq_model.specs.declared.program.Instruction.TheVariants.{Open}
use Rattle.gq_asm.proofs.Statement_reads.{service_err, open_err, open_then, end_ok, end_err}
use Rattle.gq_asm.proofs.operand_shapes.open.Goals as goal

pub returns-in_err-donation : goal.returns-in_err-donation
returns-in_err-donation c =
    let p = err_from_is_err_and c.from_residual-in_err-donation.result c.from_residual-in_err-donation.ensures.1 in
    rw (p.1, p.2) (open_err c.args.after.now (words c.args.after.now) (words c.in_ok-place.rest.now) (words c.in_ok-service.rest.now) c.in_ok-place.place
    c.in_ok-service.service c.in_err-donation.field-0.0 c.in_ok-place.ensures c.in_ok-service.ensures c.in_err-donation.ensures.read)

pub returns-in_err-service : goal.returns-in_err-service
returns-in_err-service c =
    let p = err_from_is_err_and c.from_residual-in_err-service.result c.from_residual-in_err-service.ensures.1 in
    rw (p.1, p.2) (service_err c.args.after.now (words c.args.after.now) (words c.in_ok-place.rest.now) c.in_ok-place.place c.in_err-service.field-0.0
    c.in_ok-place.ensures c.in_err-service.ensures)

pub returns-in_err-at_end : goal.returns-in_err-at_end
returns-in_err-at_end c =
    let p = err_from_is_err_and c.from_residual-in_err-at_end.result c.from_residual-in_err-at_end.ensures.1 in
    let i = Open c.in_ok-place.place c.in_ok-service.service c.in_ok-donation.donation in
    rw (p.1, p.2) (open_then c.args.after.now (words c.args.after.now) (words c.in_ok-place.rest.now) (words c.in_ok-service.rest.now)
    (words c.in_ok-donation.rest.now) c.in_ok-place.place c.in_ok-service.service c.in_ok-donation.donation (Err c.in_err-at_end.field-0.0)
    c.in_ok-place.ensures c.in_ok-service.ensures c.in_ok-donation.ensures.read
    (end_err c.args.after.now i (words c.in_ok-donation.rest.now) c.in_err-at_end.field-0.0 c.in_err-at_end.ensures))

pub returns : goal.returns
returns c =
    let i = Open c.in_ok-place.place c.in_ok-service.service c.in_ok-donation.donation in
    open_then c.args.after.now (words c.args.after.now) (words c.in_ok-place.rest.now) (words c.in_ok-service.rest.now) (words c.in_ok-donation.rest.now)
    c.in_ok-place.place c.in_ok-service.service c.in_ok-donation.donation (Ok i) c.in_ok-place.ensures c.in_ok-service.ensures c.in_ok-donation.ensures.read
    (end_ok c.args.after.now i (words c.in_ok-donation.rest.now) c.in_ok-at_end.ensures)
