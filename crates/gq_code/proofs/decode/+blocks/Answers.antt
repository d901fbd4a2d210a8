use Rattle.std.proofs.Common.{arith}
use Rattle.std.proofs.lemmas.Result.{err_from_is_err_and}
use Rattle.gq_code.specs.internal.Bodies.{body_in}
use Rattle.gq_code.proofs.Code_byte_parts.{rest_length}
use Rattle.gq_code.proofs.Coded_body_decoding.{loop_placed, placed_stop, loop_stop, loop_end}
use Rattle.gq_code.proofs.decode.+blocks.Goals as goal

pub read_body-returns-in_err-with : goal.read_body-returns-in_err-with
read_body-returns-in_err-with t c =
    let l = c.loop-left in
    let p = err_from_is_err_and c.from_residual.result c.from_residual.ensures.1 in
    rw (p.1, p.2) (loop_stop c.in_err-with.field-0.0 l.body c.args.depth l.count l.left.now (body_in c.args.depth c.args.before c.args.bytes.now)
    c.in-len1-up.len_at_least l.invariant.read (placed_stop c.in_err-with.field-0.0 l.body _ c.in_err-with.ensures.read))

pub read_body-loop-left-preserved : goal.read_body-loop-left-preserved
read_body-loop-left-preserved t c =
    let l = c.loop-left in
    let h = rest_length l.left.now c.in-len1-up.len_at_least in
    record {
      read =
          loop_placed l.body c.push_statement.new.made c.args.depth l.count c.in_ok-with.with l.left.now c.in_ok-with.after.now
          (body_in c.args.depth c.args.before c.args.bytes.now) c.in-len1-up.len_at_least l.invariant.read c.in_ok-with.ensures.read;
      shorter = omega (arith, h, c.in_ok-with.ensures.rest, l.invariant.shorter);
    }

pub read_body-returns : goal.read_body-returns
read_body-returns t c =
    let l = c.loop-left in
    loop_end l.body c.args.depth l.count l.left.now (body_in c.args.depth c.args.before c.args.bytes.now) c.in_default.len_below l.invariant.read
