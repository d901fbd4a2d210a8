-- A submission, which is reported or not.
use Rattle.std.proofs.Common.{◌≡◌, ◌∙◌, ◌<◌, ap, subst, sym}
use Rattle.std.specs.Prelude.{slice_get}
use Rattle.gq_model.specs.machine.Run.{label_at, submit}
use Rattle.gq_model.specs.machine.Scenario.{Scenario, components}
use Rattle.gq_machine.specs.Machines.{Machine}
use Rattle.gq_traces.specs.Trace.{flag_at, signal_line}
use Rattle.gq_traces.specs.internal.Printed_steps.{Goes}
use Rattle.gq_traces.specs.Traces_written.{prints_all}
use Rattle.gq_traces.proofs.Printed_submission.{submission_printed, submission_unprinted}
use Rattle.gq_traces.proofs.signal_lines.print_submission.Goals as goal

pub returns-then-is_reported : goal.returns-then-is_reported
returns-then-is_reported g c turns =
    let w = c.args.world.now in
    let took = c.signal-submitted in
    let new = took.new.self in
    let x = c.args.leaf in
    let i = c.args.signal in
    submission_printed g.W.Write.contents (prints_all c.args.reporting) x i w new c.args.tracing.now took.ensures.scenario
    (took.ensures.running c.requires.can.running c.requires.signals) took.ensures.signals
    (subst (λ k. new.world ≡ submit w.world x k) c.from.ensures took.ensures.submitted)
    (subst (λ k. x < k) (sym c.counted.ensures.leaves) c.requires.leaf) c.requires.can turns c.args.out.now c.write_signal.new.out c.args.going
    c.write_signal.result c.is_reported.result c.is_submitted-before.result c.is_submitted-after.result
    (c.is_submitted-before.ensures ∙ ap (λ (m : Machine). flag_at m.world x i) c.machine.ensures.is)
    (c.is_submitted-after.ensures ∙ ap (λ (m : Machine). flag_at m.world x i) c.machine-2.ensures.is) c.is_reported.ensures c.if-is_reported.true
    (subst (λ (s : Scenario). Goes g.W.Write.contents c.args.out.now c.write_signal.new.out c.args.going c.write_signal.result
    (signal_line (label_at (slice_get (components s) x)) i)) c.table.ensures c.write_signal.ensures)

pub returns-else-is_reported : goal.returns-else-is_reported
returns-else-is_reported g c turns =
    let w = c.args.world.now in
    let took = c.signal-submitted in
    let new = took.new.self in
    let x = c.args.leaf in
    let i = c.args.signal in
    submission_unprinted g.W.Write.contents (prints_all c.args.reporting) x i w new c.args.tracing.now took.ensures.scenario
    (took.ensures.running c.requires.can.running c.requires.signals) took.ensures.signals
    (subst (λ k. new.world ≡ submit w.world x k) c.from.ensures took.ensures.submitted)
    (subst (λ k. x < k) (sym c.counted.ensures.leaves) c.requires.leaf) c.requires.can turns c.args.out.now c.args.going
    c.is_reported.result c.is_submitted-before.result c.is_submitted-after.result
    (c.is_submitted-before.ensures ∙ ap (λ (m : Machine). flag_at m.world x i) c.machine.ensures.is)
    (c.is_submitted-after.ensures ∙ ap (λ (m : Machine). flag_at m.world x i) c.machine-2.ensures.is) c.is_reported.ensures c.if-is_reported.false
