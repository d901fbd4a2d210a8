-- The whole text, or a prefix of it.
use Rattle.std.proofs.Common.{Ok, length, refl}
use Rattle.gq_model.specs.machine.Scenario.{system}
use Rattle.gq_traces.specs.Trace.{start_traced, trace_text}
use Rattle.gq_traces.specs.Traces_written.{prints_all}
use Rattle.gq_traces.specs.internal.Line_acts.{acts_along}
use Rattle.gq_reports.proofs.Command_text_endings.{all_written, cut_short}
use Rattle.gq_traces.proofs.Traced_whole.{failed, since_then}
use Rattle.gq_traces.proofs.trace.write_trace.Goals as goal

pub returns-then-not-going : goal.returns-then-not-going
returns-then-not-going g c =
    let s = c.args.world.now.scenario in
    let reported = c.report_all-going in
    let ended = c.write_end-going in
    failed (prints_all c.args.reporting) s c.args.turns.now g.W.Write.contents c.args.world.now reported.new.world c.args.tracing.now reported.new.tracing
    c.args.out.now reported.new.out ended.new.out reported.result.0 ended.result reported.result.1
    (length c.args.turns.now) refl c.requires.on reported.ensures ended.ensures
    c.if-not-going.true

pub returns-in-Ok : goal.returns-in-Ok
returns-in-Ok g c =
    let s = c.args.world.now.scenario in
    let all = prints_all c.args.reporting in
    let text = trace_text all s (acts_along (system s) c.args.turns.now (start_traced (system s))) in
    let reported = c.report_all-going in
    let ended = c.write_end-going in
    let lines = c.write_accounts in
    all_written g.W.Write.contents (Ok text) text refl c.args.out.now lines.new.out lines.result _ _ c.in-Ok.is
    (since_then all s c.args.turns.now g.W.Write.contents c.args.world.now reported.new.world c.args.tracing.now reported.new.tracing
    c.args.out.now reported.new.out ended.new.out reported.result.0 ended.result reported.result.1
    (length c.args.turns.now) refl c.requires.on reported.ensures ended.ensures
    lines.new.out c.machine.result.now c.budgets.result.now lines.result c.if-not-going.false c.machine.ensures.is c.budgets.ensures lines.ensures)

pub returns-in-Err : goal.returns-in-Err
returns-in-Err g c =
    let s = c.args.world.now.scenario in
    let all = prints_all c.args.reporting in
    let text = trace_text all s (acts_along (system s) c.args.turns.now (start_traced (system s))) in
    let reported = c.report_all-going in
    let ended = c.write_end-going in
    let lines = c.write_accounts in
    cut_short g.W.Write.contents (Ok text) text refl c.args.out.now lines.new.out lines.result _ c.in-Err.is
    (since_then all s c.args.turns.now g.W.Write.contents c.args.world.now reported.new.world c.args.tracing.now reported.new.tracing
    c.args.out.now reported.new.out ended.new.out reported.result.0 ended.result reported.result.1
    (length c.args.turns.now) refl c.requires.on reported.ensures ended.ensures
    lines.new.out c.machine.result.now c.budgets.result.now lines.result c.if-not-going.false c.machine.ensures.is c.budgets.ensures lines.ensures)
