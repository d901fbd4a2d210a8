-- A step, reported.
use Rattle.gq_machine.specs.Events.{event_of}
use Rattle.gq_traces.specs.Traces_written.{prints_all}
use Rattle.gq_traces.proofs.Printed_step.{step_begins, step_printed, was_noted}
use Rattle.gq_traces.proofs.Still_noted.{use_in}
use Rattle.gq_traces.proofs.step_lines.print_step.Goals as goal

pub print_taken-requires-clause-noted : goal.print_taken-requires-clause-noted
print_taken-requires-clause-noted g c =
    was_noted c.args.world.now c.step-event.new.self c.args.notes.now c.step-event.ensures.scenario c.requires.noted c.counted.ensures.accounts
    c.counted-2.ensures.accounts

pub returns : goal.returns
returns g c =
    let w = c.args.world.now in
    let h = c.args.head.now in
    let step = c.step-event in
    let reported = c.print_taken.ensures w (record {
      stands = c.machine.ensures.stands;
      scenario = step.ensures.scenario;
      running = step.ensures.stopped;
      signals = step.ensures.signals;
      goes = step.ensures.stepped;
      before = use_in c.machine.result.now w h.leaf c.use_of-before.result c.machine.ensures.is c.use_of-before.ensures;
      after = use_in c.machine-2.result.now step.new.self h.leaf c.use_of-after.result c.machine-2.ensures.is c.use_of-after.ensures;
      leaves_before = c.counted.ensures.leaves;
      leaves = c.counted-2.ensures.leaves;
    }) c.requires.noted in
    record {
      scenario = step.ensures.scenario;
      running = step.ensures.stopped;
      signals = step.ensures.signals;
      event = event_of step.result step.new.line.items;
      goes = step.ensures.stepped;
      reports = step_printed g.W.Write.contents (prints_all c.args.reporting) w.scenario h _ c.args.out.now c.begin-progress.new.out c.print_taken.new.out
          c.args.going
          c.begin-progress.result c.print_taken.result c.begin-progress.ensures.begun
          (step_begins g.W.Write.contents (prints_all c.args.reporting) w.scenario c.table.result.now h c.args.out.now c.begin-progress.new.out c.args.going
          c.begin-progress.result c.table.ensures c.begin-progress.ensures.goes) reported.reports;
      noted = reported.noted;
    }
