-- A session.
use Rattle.std.proofs.Common.{◌≡◌, ◌∙◌, ◌<◌, arith, length, option_map, refl, subst, sym}
use Rattle.gq_model.specs.machine.Scenario.{Scenario, system}
use Rattle.gq_machine.specs.Machines.{Machine}
use Rattle.gq_traces.specs.Trace.{same_printed, session_line}
use Rattle.gq_traces.specs.internal.Noted.{IsReported, seen_session}
use Rattle.gq_traces.specs.internal.Printed_steps.{Reports, head_text}
use Rattle.gq_traces.proofs.Sequential_text_writes.{reports_nothing, prints_text}
use Rattle.gq_traces.proofs.Printed_session.{kept, seen_still, printed_else, printed_stands}
use Rattle.gq_traces.proofs.step_lines.print_session.Goals as goal

pub returns-then-same_printed : goal.returns-then-same_printed
returns-then-same_printed g c =
    let w = c.args.world.now in
    let s = w.scenario in
    let k = c.args.session in
    let olds = c.args.notes.now.sessions.items in
    let now = c.index.result.now in
    let reported = c.printed_session-reported.result in
    let room = c.requires.room in
    let few = c.requires.session in
    let less : k < length olds = omega (arith, room, few) in
    let is = subst (λ (m : Machine). IsReported m.scenario m.world k reported) c.machine.ensures.is c.printed_session-reported.ensures in
    let same = sym (subst (λ (t : Scenario). c.same_printed.result ≡ same_printed (option_map (seen_session t) now) (option_map (seen_session t) reported))
    c.table-table.ensures c.same_printed.ensures) ∙ c.if-same_printed.true in
    record {
      reported = prints_text g.W.Write.contents c.args.out.now c.args.out.now c.args.progress c.args.progress (head_text s c.args.head.now) _ _
          (printed_stands s w.world k olds now reported less c.index.ensures is same)
          (reports_nothing g.W.Write.contents c.args.out.now c.args.progress (head_text s c.args.head.now));
      seen = now;
      is = seen_still s w.world k olds now reported less c.index.ensures is same c.requires.known;
      sessions = kept s w.world k olds now reported less c.index.ensures is;
      accounts = refl;
      count = refl;
    }

pub returns : goal.returns
returns g c =
    let w = c.args.world.now in
    let s = w.scenario in
    let k = c.args.session in
    let olds = c.args.notes.now.sessions.items in
    let now = c.index.result.now in
    let reported = c.printed_session-reported.result in
    let room = c.requires.room in
    let few = c.requires.session in
    let less : k < length olds = omega (arith, room, few) in
    let is = subst (λ (m : Machine). IsReported m.scenario m.world k reported) c.machine.ensures.is c.printed_session-reported.ensures in
    let other = sym (subst (λ (t : Scenario). c.same_printed.result ≡ same_printed (option_map (seen_session t) now) (option_map (seen_session t) reported))
    c.table-table.ensures c.same_printed.ensures) ∙ c.if-same_printed.false in
    let line = subst (λ (t : Scenario). c.session_line-line.result.items ≡ session_line t.version (system t) k (option_map (seen_session t) reported))
    c.table-table.ensures c.session_line-line.ensures in
    record {
      reported = prints_text g.W.Write.contents c.args.out.now c.report.new.out c.args.progress c.report.result (head_text s c.args.head.now) _ _
          (c.as_slice.ensures.value ∙ (line ∙ printed_else s w.world k olds now reported less c.index.ensures is other))
          (subst (λ (t : Scenario). Reports g.W.Write.contents c.args.out.now c.report.new.out c.args.progress c.report.result (head_text t c.args.head.now)
          c.as_slice.result.now) c.table-table.ensures c.report.ensures);
      seen = reported;
      is = is;
      sessions = refl;
      accounts = refl;
      count = refl;
    }
