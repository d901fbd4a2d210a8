-- The next step, if there is one.
use Rattle.gq_traces.specs.internal.Printed_steps.{due_of}
use Rattle.gq_traces.proofs.Unprinted_turns.{none_at, some_at}
use Rattle.gq_traces.proofs.Sequential_text_writes.{goes_nothing}
use Rattle.gq_traces.proofs.Printed_leaves.{next_reported, no_next}
use Rattle.gq_traces.proofs.account_state.write_next.Goals as goal

pub returns-in-None : goal.returns-in-None
returns-in-None g c aheads are =
    let m = c.args.machine.now in
    let f = c.args.followed.now in
    no_next g.W.Write.contents (due_of m.scenario m.world c.args.leaf aheads)
    (none_at m c.args.leaf c.as_slice-programs.result.now f.programs.items c.as_slice.result.now f.aheads.items c.next_due.result
    c.as_slice-programs.ensures.value c.as_slice.ensures.value c.in-None.is c.next_due.ensures aheads are) c.args.out.now c.args.going
    (goes_nothing g.W.Write.contents c.args.out.now c.args.going)

pub returns-in-Some : goal.returns-in-Some
returns-in-Some g c aheads are =
    let m = c.args.machine.now in
    let f = c.args.followed.now in
    next_reported g.W.Write.contents c.in-Some.due (due_of m.scenario m.world c.args.leaf aheads)
    (some_at m c.args.leaf c.as_slice-programs.result.now f.programs.items c.as_slice.result.now f.aheads.items c.next_due.result c.in-Some.due
    c.as_slice-programs.ensures.value c.as_slice.ensures.value c.in-Some.is c.next_due.ensures aheads are) c.args.out.now c.write_due.new.out c.args.going
    c.write_due.result c.write_due.ensures
