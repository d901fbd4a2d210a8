-- What a step changes, reported.
use Rattle.std.proofs.Common.{◌≤◌, ◌∙◌, None, ap, get_or, length, map, refl, sym, subst}
use Rattle.std.specs.Prelude.{slice_get}
use Rattle.gq_model.specs.machine.Scenario.{Scenario, components}
use Rattle.gq_machine.specs.Events.{event_of}
use Rattle.gq_model.specs.machine.Run.{label_at}
use Rattle.gq_traces.specs.Trace.{account_change}
use Rattle.gq_traces.specs.internal.Noted.{AreKnown, AreNoted, standing_in}
use Rattle.gq_traces.specs.internal.Printed_steps.{Reports, head_text}
use Rattle.gq_traces.proofs.Printed_step.{line_as, step_changes}
use Rattle.gq_traces.proofs.Sequential_text_writes.{reports_both, prints_text}
use Rattle.gq_traces.proofs.Renewed_trace_notes.{noted_both, sessions_of}
use Rattle.gq_traces.proofs.Still_noted.{step_left, step_own}
use Rattle.gq_traces.proofs.step_lines.print_taken.Goals as goal

pub print_sessions-requires-clause-room : goal.print_sessions-requires-clause-room
print_sessions-requires-clause-room g c = ap (λ (v : _). length v.items) c.print_accounts-progress.ensures.sessions ∙ c.requires.noted.room

pub print_sessions-requires-clause-count : goal.print_sessions-requires-clause-count
print_sessions-requires-clause-count g c = subst (λ n. n ≤ 16449) (sym c.print_accounts-progress.ensures.count) c.requires.noted.few

pub print_sessions-requires-clause-known : goal.print_sessions-requires-clause-known
print_sessions-requires-clause-known g c =
    λ k less. subst (λ (v : _). AreKnown c.args.world.now.scenario (get_or v.items k None)) (sym c.print_accounts-progress.ensures.sessions)
    (c.requires.noted.known k less)

pub returns-then-same_amount : goal.returns-then-same_amount
returns-then-same_amount g c old taken noted =
    let w = c.args.world.now in
    let h = c.args.head.now in
    let t = c.args.taken in
    let event = event_of t.event c.args.text.now.items in
    let line = c.report_line-progress in
    let left = step_left old w h.leaf event _ _ t.before t.after taken.stands taken.scenario taken.goes refl refl taken.before taken.after
    (sym c.same_phase.ensures ∙ c.if-same_phase.true) (sym c.same_amount.ensures ∙ c.if-same_amount.true) c.args.notes.now noted
    (label_at (slice_get (components old.scenario) h.leaf)) in
    record {
      reports = prints_text g.W.Write.contents c.args.out.now line.new.out c.args.progress line.result (head_text old.scenario h) _ _ (sym left.1)
          (line_as g.W.Write.contents old.scenario c.table.result.now h event c.args.out.now line.new.out c.args.progress line.result
          (c.table.ensures ∙ taken.scenario) line.ensures);
      noted = left.0;
    }

pub returns-then-same_phase : goal.returns-then-same_phase
returns-then-same_phase g c old taken noted =
    let w = c.args.world.now in
    let h = c.args.head.now in
    let t = c.args.taken in
    let event = event_of t.event c.args.text.now.items in
    let line = c.report_line-progress in
    let own = c.report_own in
    let o = own.ensures in
    let left = step_own old w h.leaf event _ _ t.before t.after taken.stands taken.scenario taken.goes refl refl taken.before taken.after
    (sym c.same_phase.ensures ∙ c.if-same_phase.true) taken.leaves_before taken.leaves c.args.notes.now own.new.notes noted o.place o.at o.account o.there
    o.noted o.before o.reports.renewed (label_at (slice_get (components old.scenario) h.leaf)) in
    record {
      reports = prints_text g.W.Write.contents c.args.out.now own.new.out c.args.progress own.result (head_text old.scenario h) _ _ (sym left.1)
          (reports_both g.W.Write.contents c.args.out.now line.new.out own.new.out c.args.progress line.result own.result (head_text old.scenario h) _ _
          (line_as g.W.Write.contents old.scenario c.table.result.now h event c.args.out.now line.new.out c.args.progress line.result
          (c.table.ensures ∙ taken.scenario) line.ensures)
          (subst (λ (s : Scenario). Reports g.W.Write.contents line.new.out own.new.out line.result own.result (head_text s h)
          (account_change s.version (standing_in o.noted) o.account)) taken.scenario (o.reports.reported o.account o.noted o.there o.before)));
      noted = left.0;
    }

pub returns : goal.returns
returns g c old taken noted =
    let w = c.args.world.now in
    let h = c.args.head.now in
    let event = event_of c.args.taken.event c.args.text.now.items in
    let line = c.report_line-progress in
    let accounts = c.print_accounts-progress in
    let sessions = c.print_sessions in
    let was = subst (λ (s : Scenario). AreNoted s old.world c.args.notes.now) (sym taken.scenario) noted in
    let reported = sessions.ensures old.world (sessions_of w.scenario old.world c.args.notes.now accounts.new.notes was accounts.ensures.sessions
    accounts.ensures.count) in
    record {
      reports = step_changes g.W.Write.contents old.scenario h old.world w c.args.notes.now event c.args.out.now line.new.out accounts.new.out sessions.new.out
          c.args.progress line.result accounts.result sessions.result taken.scenario noted
          (line_as g.W.Write.contents old.scenario c.table.result.now h event c.args.out.now line.new.out c.args.progress line.result
          (c.table.ensures ∙ taken.scenario) line.ensures)
          accounts.ensures.reported reported.reported;
      noted = noted_both w sessions.new.notes (ap (λ (v : _). map standing_in v.items) reported.accounts ∙ accounts.ensures.accounts) reported.noted;
    }
