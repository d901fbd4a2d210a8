-- The place of a step, part by part.
use Rattle.std.proofs.Common.{◌∙◌, ◌++◌, ◌∷◌, []}
use Rattle.gq_traces.specs.internal.Slot_items.{next_prefix}
use Rattle.gq_traces.specs.internal.Printed_steps.{statement_text}
use Rattle.gq_traces.proofs.Sequential_text_writes.{goes_both, goes_text}
use Rattle.gq_traces.proofs.account_state.write_due.Goals as goal

pub returns : goal.returns
returns g c =
    let d = c.args.due.now in
    let prefix = next_prefix d in
    let statement = statement_text d.statement in
    let a = c.args.out.now in
    let b = c.write_on-going in
    let e = c.write_statement-going in
    goes_both g.W.Write.contents a e.new.out c.write_on.new.out c.args.going e.result c.write_on.result (prefix ++ statement) (10 ∷ [])
    (goes_both g.W.Write.contents a b.new.out e.new.out c.args.going b.result e.result prefix statement
    (goes_text g.W.Write.contents a b.new.out c.args.going b.result c.as_slice.result.now prefix (c.as_slice.ensures.value ∙ c.next_line-line.ensures)
    b.ensures)
    e.ensures) c.write_on.ensures
