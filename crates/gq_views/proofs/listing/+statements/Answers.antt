use Rattle.std.proofs.Common.{◌≡◌, ◌∙◌, ◌+◌, ◌<◌, ◌++◌, length, ap, arith, subst, refl}
use Rattle.std.proofs.lemmas.Bool.Decides.{nat_tests}
use Rattle.std.proofs.lemmas.Result.{on_ok_weaker}
use Rattle.gq_model.specs.machine.Program.{size}
use Rattle.gq_program.proofs.Statement_list_sizes.{size_here}
use Rattle.gq_views.specs.Listing.{joined, other_lines, statements_lines}
use Rattle.gq_views.proofs.Printed_statements.{grown, if_text, loop_text_is, other_text, text_here}
use Rattle.gq_views.proofs.listing.+statements.Goals as goal

pub push_body-push_statement-requires : goal.push_body-push_statement-requires
push_body-push_statement-requires t c =
    let l = c.loop-statement in
    let items = c.statements-statement-items.result.now in
    let here = size_here items l.statement-index c.statement-item.result c.loop-statement-test.true c.statement-item.is in
    let all = ap size c.statements-statement-items.ensures in
    (omega (arith, c.decreases, here, all), omega (arith, c.requires, here, all))

pub push_body-loop-statement-preserved : goal.push_body-loop-statement-preserved
push_body-loop-statement-preserved t c =
    let l = c.loop-statement in
    let items = c.statements-statement-items.result.now in
    grown l.text.items c.push_statement.new.text.items _ _ _ c.in_ok-push_statement.ensures
    (text_here c.args.depth items l.statement-index c.statement-item.result c.loop-statement-test.true c.statement-item.is)
    ∙ l.invariant

pub push_other-push_body-requires : goal.push_other-push_body-requires
push_other-push_body-requires t c =
    (omega (arith, c.decreases), c.requires)

pub push_other-returns : goal.push_other-returns
push_other-returns t c =
    let items = c.statements.result.now in
    let test = c.is_empty.ensures in
    let false_is = c.if-is_empty.false in
    let some : 0 < length items = grind (arith, nat_tests, test, false_is) in
    on_ok_weaker c.push_body.result (λ e. subst (λ o. c.push_body.new.text.items ≡ c.args.text.now.items ++ joined (other_lines c.args.depth o
    (statements_lines (c.args.depth + 1) c.args.other.now)))
    c.statements.ensures (other_text c.args.depth (statements_lines (c.args.depth + 1) c.args.other.now) items some c.args.text.now.items _ _
    c.in_ok-push_line.ensures e)) c.push_body.ensures

pub push_statement-returns-in_ok-push_other-in-If : goal.push_statement-returns-in_ok-push_other-in-If
push_statement-returns-in_ok-push_other-in-If t c =
    let d = c.args.depth in
    on_ok_weaker c.push_line-in-If.result (λ e. rw c.in-If.is (if_text d (d + 1) refl c.in-If.arm c.in-If.other c.args.text.now.items _ _ _ _
    c.in_ok-push_line-in-If.ensures c.in_ok-push_body-in-If.ensures c.in_ok-push_other-in-If.ensures e)) c.push_line-in-If.ensures

pub push_statement-returns-in_ok-push_body-in-Loop : goal.push_statement-returns-in_ok-push_body-in-Loop
push_statement-returns-in_ok-push_body-in-Loop t c =
    let d = c.args.depth in
    on_ok_weaker c.push_line-in-Loop.result (λ e. rw c.in-Loop.is (loop_text_is d (d + 1) refl c.in-Loop.count c.in-Loop.body c.args.text.now.items _ _ _
    c.in_ok-push_loop-in-Loop.ensures c.in_ok-push_body-in-Loop.ensures e)) c.push_line-in-Loop.ensures
