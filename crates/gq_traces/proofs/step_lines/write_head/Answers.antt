-- The first line, part by part.
use Rattle.std.proofs.Common.{◌∙◌, ◌∷◌, [], ◌++◌}
use Rattle.gq_traces.specs.internal.Printed_steps.{head_prefix, statement_text}
use Rattle.gq_traces.proofs.Sequential_text_writes.{goes_both, goes_text}
use Rattle.gq_traces.proofs.step_lines.write_head.Goals as goal

pub returns : goal.returns
returns g c =
    let prefix = head_prefix c.args.table.now c.args.head.now in
    let statement = statement_text c.args.head.now.due.statement in
    let a = c.args.out.now in
    let b = c.write_on-going.new.out in
    let d = c.write_statement-going.new.out in
    goes_both g.W.Write.contents a d c.write_on.new.out c.args.going c.write_statement-going.result c.write_on.result (prefix ++ statement) (10 ∷ [])
    (goes_both g.W.Write.contents a b d c.args.going c.write_on-going.result c.write_statement-going.result prefix statement
    (goes_text g.W.Write.contents a b c.args.going c.write_on-going.result c.as_slice.result.now prefix (c.as_slice.ensures.value ∙ c.head_line-line.ensures)
    c.write_on-going.ensures) c.write_statement-going.ensures)
    c.write_on.ensures
