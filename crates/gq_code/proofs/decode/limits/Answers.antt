use Rattle.std.proofs.Common.{◌∙◌, refl, length-set}
use Rattle.std.proofs.lemmas.Result.{err_from_is_err_and}
use Rattle.gq_model.specs.texts.Decode.{limits_at}
use Rattle.gq_code.proofs.Coded_section_limits.{limits_turn, limits_stop, limits_end, limits_start}
use Rattle.gq_code.proofs.decode.limits.Goals as goal

pub loop-i-init : goal.loop-i-init
loop-i-init c = record { read = limits_start (limits_at 8 c.args.given c.args.bytes.now); eight = refl }

pub returns-in_err-limit : goal.returns-in_err-limit
returns-in_err-limit c =
    let l = c.loop-i in
    let p = err_from_is_err_and c.from_residual.result c.from_residual.ensures.1 in
    rw (p.1, p.2) (limits_stop l.limits l.i l.bits l.left.now c.in_err-limit.field-0.0 (limits_at 8 c.args.given c.args.bytes.now) c.loop-i-test.true
    l.invariant.read c.in_err-limit.ensures)

pub loop-i-preserved : goal.loop-i-preserved
loop-i-preserved c =
    let l = c.loop-i in
    record {
      read =
          limits_turn l.limits l.i l.bits c.in_ok-limit.limit l.left.now c.in_ok-limit.rest.now (limits_at 8 c.args.given c.args.bytes.now) c.loop-i-test.true
          l.invariant.eight l.invariant.read c.in_ok-limit.ensures;
      eight = length-set l.limits l.i c.in_ok-limit.limit ∙ l.invariant.eight;
    }

pub returns : goal.returns
returns c =
    let l = c.loop-i in
    limits_end l.limits l.i l.bits l.left.now (limits_at 8 c.args.given c.args.bytes.now) c.loop-i-test.false l.auto.i-end l.invariant.eight l.invariant.read
