-- A line of a step.
use Rattle.std.proofs.Common.{arith, ap, length, refl, true}
use Rattle.gq_traces.specs.internal.Printed_steps.{head_text}
use Rattle.gq_traces.proofs.Sequential_text_writes.{goes_both, reports_first, prints_line}
use Rattle.gq_traces.proofs.step_lines.report.Goals as goal

pub returns-then-progress : goal.returns-then-progress
returns-then-progress g c =
    prints_line g.W.Write.contents c.args.out.now c.write_on.new.out c.args.progress (record { going = c.write_on.result; begun = true })
    (head_text c.args.table.now c.args.head.now) c.args.line.now c.if-progress.true refl c.write_on.ensures

pub returns : goal.returns
returns g c =
    let head = head_text c.args.table.now c.args.head.now in
    let some = c.requires.some in
    reports_first g.W.Write.contents c.args.out.now c.write_on-2.new.out c.args.progress (record { going = c.write_on-2.result; begun = true }) head
    c.args.line.now c.if-progress.false refl (λ none. let long = ap length none in omega (arith, some, long))
    (goes_both g.W.Write.contents c.args.out.now c.write_head-going.new.out c.write_on-2.new.out c.args.progress.going c.write_head-going.result
    c.write_on-2.result head c.args.line.now c.write_head-going.ensures c.write_on-2.ensures)
