use Rattle.std.proofs.Common.{◌≡◌, ◌+◌, ◌<◌, [], ◌∷◌, ◌++◌, length, ap, arith, refl, subst}
use Rattle.std.proofs.lemmas.Bool.Decides.{nat_tests}
use Rattle.std.proofs.lemmas.Result.{on_ok_weaker}
use Rattle.gq_model.specs.machine.Program.{size}
use Rattle.gq_program.specs.Statement_trees.{tree_of}
use Rattle.gq_program.specs.declared.program_tree.Statement.{Statement}
use Rattle.gq_program.proofs.Statement_list_sizes.{size_here}
use Rattle.gq_views.specs.Numbered.{other_rows, statement_rows, text_of}
use Rattle.gq_views.proofs.Numbered_rows.{if_text, loop_rows, other_text, sizes_here, statement_put}
use Rattle.gq_views.proofs.numbered_listing.+numbered.Goals as goal

pub push_body-push_statement-requires : goal.push_body-push_statement-requires
push_body-push_statement-requires t c =
    let l = c.loop-statement in
    let items = c.statements-statement-items.result.now in
    let within = c.loop-statement-test.true in
    let is = c.statement-item.is in
    let here = size_here items l.statement-index c.statement-item.result within is in
    let left = sizes_here items l.statement-index c.statement-item.result within is in
    let all = ap size c.statements-statement-items.ensures in
    (omega (arith, c.decreases, here, all), omega (arith, c.requires, here, left, all, l.invariant.numbers))

pub push_body-loop-statement-preserved : goal.push_body-loop-statement-preserved
push_body-loop-statement-preserved t c =
    let l = c.loop-statement in
    let items = c.statements-statement-items.result.now in
    let st = c.statement-item.result in
    let within = c.loop-statement-test.true in
    let is = c.statement-item.is in
    let left = sizes_here items l.statement-index st within is in
    record {
      lines =
          statement_put c.args.depth items l.statement-index st within is l.number c.in_ok-number.number l.text.items c.push_statement.new.text.items _
          c.in_ok-number.ensures.next c.in_ok-number.ensures.lines l.invariant.lines;
      numbers = omega (arith, l.invariant.numbers, left, c.in_ok-number.ensures.next);
    }

pub push_other-returns-clause-lines : goal.push_other-returns-clause-lines
push_other-returns-clause-lines t c =
    let items = c.statements.result.now in
    let test = c.is_empty.ensures in
    let false_is = c.if-is_empty.false in
    let some : 0 < length items = grind (arith, nat_tests, test, false_is) in
    on_ok_weaker c.push_body.result (λ e. subst (λ o. c.push_body.new.text.items ≡ c.args.text.now.items ++ text_of (other_rows c.args.depth o
    (statement_rows (c.args.depth + 1) c.args.number c.args.other.now)))
    c.statements.ensures (other_text c.args.depth (statement_rows (c.args.depth + 1) c.args.number c.args.other.now) items some c.args.text.now.items _ _
    c.in_ok-push_words.ensures e)) c.push_body.ensures.lines

pub push_statement-push_body-requires : goal.push_statement-push_body-requires
push_statement-push_body-requires t c =
    let whole = ap (λ (s : Statement). size (tree_of (s ∷ []))) c.in-If.is in
    (omega (arith, c.decreases, whole), omega (arith, c.requires, whole))

pub push_statement-push_other-requires : goal.push_statement-push_other-requires
push_statement-push_other-requires t c =
    let whole = ap (λ (s : Statement). size (tree_of (s ∷ []))) c.in-If.is in
    (omega (arith, c.decreases, whole), omega (arith, c.requires, whole, c.in_ok-between-in-If.ensures.next))

pub push_statement-push_body-requires-in-Loop : goal.push_statement-push_body-requires-in-Loop
push_statement-push_body-requires-in-Loop t c =
    let whole = ap (λ (s : Statement). size (tree_of (s ∷ []))) c.in-Loop.is in
    (omega (arith, c.decreases, whole), omega (arith, c.requires, whole))

pub push_statement-returns-in_ok-push_words-in-If-clause-lines : goal.push_statement-returns-in_ok-push_words-in-If-clause-lines
push_statement-returns-in_ok-push_words-in-If-clause-lines t c =
    let d = c.args.depth in
    rw c.in-If.is (if_text d (d + 1) c.args.number refl c.in_ok-between-in-If.between c.in-If.arm c.in-If.other c.args.text.now.items _ _ _ _ _
    c.in_ok-between-in-If.ensures.next c.in_ok-push_number.ensures c.in_ok-push_line-in-If.ensures c.in_ok-between-in-If.ensures.lines
    c.in_ok-next-in-If.ensures.lines c.in_ok-push_words-in-If.ensures)

pub push_statement-returns-in_ok-push_words-in-Loop-clause-lines : goal.push_statement-returns-in_ok-push_words-in-Loop-clause-lines
push_statement-returns-in_ok-push_words-in-Loop-clause-lines t c =
    let d = c.args.depth in
    rw c.in-Loop.is (loop_rows d (d + 1) c.args.number refl c.in-Loop.count c.in-Loop.body c.args.text.now.items _ _ _ _ c.in_ok-push_number.ensures
    c.in_ok-push_loop-in-Loop.ensures c.in_ok-next-in-Loop.ensures.lines c.in_ok-push_words-in-Loop.ensures)
