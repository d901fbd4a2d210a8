use Rattle.std.proofs.lemmas.Result.{err_from_is_err_and}
use Rattle.gq_program.specs.Statement_table.{shape_of}
use Rattle.gq_code.proofs.Coded_body_decoding.{coded_ok, coded_err}
use Rattle.gq_code.proofs.decode.push_coded.Goals as goal

pub returns-in_err-rest-clause-read : goal.returns-in_err-rest-clause-read
returns-in_err-rest-clause-read c =
    let p = err_from_is_err_and c.from_residual-in_err-rest.result c.from_residual-in_err-rest.ensures.1 in
    rw (p.1, p.2) (coded_err c.in_err-rest.field-0.0 c.args.body.now c.args.op (shape_of c.in-Some.shape) c.args.before c.in_ok-count.count c.args.bytes.now
    c.in-Some.ensures c.in_ok-count.ensures c.in_err-rest.ensures.read)

pub returns-clause-read : goal.returns-clause-read
returns-clause-read c =
    coded_ok c.args.body.now c.push_plain.new.body c.args.op (shape_of c.in-Some.shape) c.args.before c.in_ok-count.count c.args.bytes.now
    c.in_ok-rest.rest.now c.in-Some.ensures c.in_ok-count.ensures c.in_ok-rest.ensures.read
