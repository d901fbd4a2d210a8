use Rattle.std.proofs.Common.{arith}
use Rattle.std.proofs.lemmas.Grind.{common_steps}
use Rattle.std.proofs.Common.{◌%◌}
use Rattle.std.proofs.lemmas.Result.{err_from_is_err_and}
use Rattle.gq_model.specs.texts.Decode.{sections_at}
use Rattle.gq_code.proofs.Coded_section_limits.{bit_is, bit_not, sections_turn, sections_skip, sections_stop}
use Rattle.gq_code.proofs.decode.sections.Goals.{then-bits-eq1+in_ok-body+in_ok-push, else-bits-eq1}
use Rattle.gq_code.proofs.decode.sections.Goals as goal

pub returns-in_err-body : goal.returns-in_err-body
returns-in_err-body c =
    let l = c.loop-name in
    let p = err_from_is_err_and c.from_residual.result c.from_residual.ensures.1 in
    rw (p.1, p.2) (sections_stop c.in_err-body.field-0.0 l.sections.items c.args.order.now l.name-index l.bits l.count l.left.now
    (sections_at c.args.order.now c.args.present 0 c.args.bytes.now) c.loop-name-test.true (bit_is (l.bits % 2) c.if-bits-eq1.true) l.invariant
    c.in_err-body.ensures)

pub loop-name-preserved : goal.loop-name-preserved
loop-name-preserved c =
    let l = c.loop-name in
    let all = sections_at c.args.order.now c.args.present 0 c.args.bytes.now in
    elim c.if-bits-eq1.branch [
      | then-bits-eq1+in_ok-body+in_ok-push w ↦ rw (w.sections-is, w.count-is, w.left-is)
          (sections_turn l.sections.items w.push.new.self.items c.args.order.now l.name-index l.bits l.count w.in_ok-body.with l.left.now w.in_ok-body.rest.now
          w.in_ok-body.body all c.loop-name-test.true (bit_is (l.bits % 2) w.if-bits-eq1.true) l.invariant w.in_ok-body.ensures
          w.in_ok-push.ensures.items)
      | else-bits-eq1 w ↦ rw (
        w.sections-is,
        w.count-is,
        w.left-is,
      ) (sections_skip l.sections.items c.args.order.now l.name-index l.bits l.count l.left.now all c.loop-name-test.true
          (bit_not (l.bits % 2) w.if-bits-eq1.false) l.invariant)
    ]

pub returns : goal.returns
returns c = grind (arith, common_steps)
