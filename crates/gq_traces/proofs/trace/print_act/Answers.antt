-- Another value of an input, or a signal.
use Rattle.std.proofs.Common.{arith}
use Rattle.gq_model.specs.machine.Scenario.{system}
use Rattle.gq_traces.specs.Trace.{after_setting, after_turns, setting_text, turns_text}
use Rattle.gq_traces.specs.Traces_written.{prints_all}
use Rattle.gq_traces.specs.internal.Printed_steps.{budgets_of}
use Rattle.gq_traces.proofs.Turns_going.{turns_within}
use Rattle.gq_traces.proofs.trace.print_act.Goals as goal

pub returns-in-Turns : goal.returns-in-Turns
returns-in-Turns g c =
    let s = c.args.world.now.scenario in
    let all = prints_all c.args.reporting in
    let took = c.report_turns in
    let n = c.in-Turns.count in
    rw (c.in-Turns.is)
    (turns_within g.W.Write.contents 0 1 (turns_text all s (budgets_of s) c.args.leaf n) (after_turns (system s) c.args.leaf n) c.args.turns n
    c.args.world.now took.new.world c.args.tracing.now took.new.tracing c.args.out.now took.new.out c.args.going took.result (omega arith) took.ensures)

pub returns-in-Sets : goal.returns-in-Sets
returns-in-Sets g c =
    let s = c.args.world.now.scenario in
    let all = prints_all c.args.reporting in
    let set = c.print_setting in
    let i = c.in-Sets.input in
    let n = c.in-Sets.number in
    rw (c.in-Sets.is)
    (turns_within g.W.Write.contents 0 1 (setting_text all (system s) c.args.leaf i n) (after_setting (system s) c.args.leaf i n) c.args.turns 0
    c.args.world.now set.new.world c.args.tracing.now set.new.tracing c.args.out.now set.new.out c.args.going set.result (omega arith)
    (set.ensures c.args.turns))

pub returns-in-Submits : goal.returns-in-Submits
returns-in-Submits g c = rw (c.in-Submits.is) (c.print_submission.ensures c.args.turns)
