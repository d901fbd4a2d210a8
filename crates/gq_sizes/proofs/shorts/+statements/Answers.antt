use Rattle.std.proofs.Common.{◌+◌, ap, arith, refl}
use Rattle.std.proofs.lemmas.Result.{on_ok_weaker}
use Rattle.gq_model.specs.machine.Program.{size}
use Rattle.gq_program.proofs.Statement_list_sizes.{size_here}
use Rattle.gq_sizes.specs.Point_maxima.{given_in}
use Rattle.gq_sizes.proofs.Printed_short_opens.{arms_text, sizes_here, statement_put}
use Rattle.gq_sizes.proofs.shorts.+statements.Goals as goal

pub push_body-push_statement-requires : goal.push_body-push_statement-requires
push_body-push_statement-requires t c =
    let l = c.loop-statement in
    let opens = c.args.opens.now in
    let items = c.statements-statement-items.result.now in
    let within = c.loop-statement-test.true in
    let is = c.statement-item.is in
    let here = size_here items l.statement-index c.statement-item.result within is in
    let left =
    sizes_here (given_in opens.interfaces.now opens.sums.now) opens.label.now opens.section items l.statement-index c.statement-item.result within is in
    let all = ap size c.statements-statement-items.ensures in
    (omega (arith, c.decreases, here, all), omega (arith, c.requires, here, left, all, l.invariant.numbers))

pub push_body-loop-statement-preserved : goal.push_body-loop-statement-preserved
push_body-loop-statement-preserved t c =
    let l = c.loop-statement in
    let opens = c.args.opens.now in
    let least = given_in opens.interfaces.now opens.sums.now in
    let items = c.statements-statement-items.result.now in
    let st = c.statement-item.result in
    let within = c.loop-statement-test.true in
    let is = c.statement-item.is in
    let left = sizes_here least opens.label.now opens.section items l.statement-index st within is in
    record {
      lines =
          statement_put least opens.label.now opens.section items l.statement-index st within is l.number c.in_ok-number.number l.text.items
          c.push_statement.new.text.items _ c.in_ok-number.ensures.next c.in_ok-number.ensures.lines l.invariant.lines;
      numbers = omega (arith, l.invariant.numbers, left, c.in_ok-number.ensures.next);
    }

pub push_statement-returns-in_ok-between-in-If-clause-lines : goal.push_statement-returns-in_ok-between-in-If-clause-lines
push_statement-returns-in_ok-between-in-If-clause-lines t c =
    let opens = c.args.opens.now in
    on_ok_weaker c.push_body-in-If.result (λ e. rw c.in-If.is (arms_text (given_in opens.interfaces.now opens.sums.now) opens.label.now opens.section
    c.args.number (c.args.number + 1) c.in_ok-between-in-If.between c.in-If.arm c.in-If.other c.args.text.now.items _ _ refl
    c.in_ok-between-in-If.ensures.next c.in_ok-between-in-If.ensures.lines e)) c.push_body-in-If.ensures.lines
