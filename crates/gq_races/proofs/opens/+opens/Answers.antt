use Rattle.std.proofs.Common.{◌+◌, ap, arith, refl}
use Rattle.std.proofs.lemmas.Result.{on_ok_weaker}
use Rattle.gq_model.specs.machine.Program.{size}
use Rattle.gq_program.proofs.Statement_list_sizes.{size_here}
use Rattle.gq_races.proofs.Race_line_text.{arms_text, sizes_here, statement_put}
use Rattle.gq_races.specs.internal.Openers.{opens_among}
use Rattle.gq_views.specs.internal.Table_leaves.{served_by}
use Rattle.gq_races.specs.internal.Kind_lines.{opened_line}
use Rattle.gq_races.proofs.opens.+opens.Goals as goal

pub push_opens-push_opens_in-requires : goal.push_opens-push_opens_in-requires
push_opens-push_opens_in-requires t c =
    let l = c.loop-statement in
    let items = c.statements-statement-items.result.now in
    let within = c.loop-statement-test.true in
    let is = c.statement-item.is in
    let here = size_here items l.statement-index c.statement-item.result within is in
    let left = sizes_here (opens_among (served_by c.args.client.now) c.args.leaf) (opened_line c.args.prefix.now) items l.statement-index
    c.statement-item.result within is in
    let all = ap size c.statements-statement-items.ensures in
    (omega (arith, c.decreases, here, all), omega (arith, c.requires, here, left, all, l.invariant.numbers))

pub push_opens-loop-statement-preserved : goal.push_opens-loop-statement-preserved
push_opens-loop-statement-preserved t c =
    let l = c.loop-statement in
    let items = c.statements-statement-items.result.now in
    let st = c.statement-item.result in
    let within = c.loop-statement-test.true in
    let is = c.statement-item.is in
    let left = sizes_here (opens_among (served_by c.args.client.now) c.args.leaf) (opened_line c.args.prefix.now) items l.statement-index
    st within is in
    record {
      lines =
          statement_put (opens_among (served_by c.args.client.now) c.args.leaf) (opened_line c.args.prefix.now) items l.statement-index
          st within is l.number c.in_ok-number.number l.text.items c.push_opens_in.new.text.items _
          c.in_ok-number.ensures.next c.in_ok-number.ensures.lines l.invariant.lines;
      numbers = omega (arith, l.invariant.numbers, left, c.in_ok-number.ensures.next);
    }

pub push_opens_in-returns-in_ok-between-in-If-clause-lines : goal.push_opens_in-returns-in_ok-between-in-If-clause-lines
push_opens_in-returns-in_ok-between-in-If-clause-lines t c =
    on_ok_weaker c.push_opens-in-If.result (λ e. rw c.in-If.is (arms_text (opens_among (served_by c.args.client.now) c.args.leaf)
    (opened_line c.args.prefix.now) c.args.number (c.args.number + 1) c.in_ok-between-in-If.between
    c.in-If.arm c.in-If.other c.args.text.now.items _ _ refl c.in_ok-between-in-If.ensures.next c.in_ok-between-in-If.ensures.lines e))
    c.push_opens-in-If.ensures.lines
