-- All sessions.
use Rattle.std.proofs.Common.{◌≡◌, ◌∙◌, ◌-◌, ◌<◌, ◌+◌, ℕ, None, suc, ap, arith, get_or, length, refl, subst, sym}
use Rattle.std.specs.Prelude.{max}
use Rattle.gq_model.specs.machine.Scenario.{system}
use Rattle.gq_traces.specs.Trace.{session_changes}
use Rattle.gq_traces.specs.internal.Noted.{AreKnown, IsReported, printed_change}
use Rattle.gq_traces.specs.internal.Printed_steps.{Reports, head_text}
use Rattle.gq_traces.proofs.Printed_changes.{Sessions_so_far, change_noted, sessions_end, sessions_first, sessions_next}
use Rattle.gq_traces.proofs.Sequential_text_writes.{prints_text}
use Rattle.gq_traces.proofs.Renewed_trace_notes.{length_set, others_more, sessions_all, printed_more}
use Rattle.gq_traces.proofs.step_lines.print_sessions.Goals as goal

pub loop-session-init : goal.loop-session-init
loop-session-init g c = record {
  reported = λ old noted. (
      let s = c.args.world.now.scenario in
      let w = c.args.world.now.world in
      let head = head_text s c.args.head.now in
      let whole = session_changes s.version (system s) old w 0 c.max-count.result in
      let all : c.max-count.result ≡ c.max-count.result - 0 = omega arith in
      subst (λ n. Sessions_so_far g.W.Write.contents s old w head 0 n c.args.out.now c.args.out.now c.args.progress c.args.progress whole) all
      (sessions_first g.W.Write.contents s old w head c.max-count.result c.args.out.now c.args.progress));
  noted = λ k less. absurd (omega (arith, less));
  others = λ k over. refl;
  room = c.requires.room;
  accounts = refl;
}

pub print_session-progress-requires-clause-known : goal.print_session-progress-requires-clause-known
print_session-progress-requires-clause-known g c =
    let l = c.loop-session in
    let s = c.args.world.now.scenario in
    let less = c.loop-session-test.true in
    let few = c.max-count.ensures in
    let most = c.session_count-now.ensures.few in
    let noted_few = c.requires.count in
    subst (AreKnown s) (sym (l.invariant.others l.session (omega arith))) (c.requires.known l.session (omega (arith, less, few, most, noted_few)))

pub loop-session-preserved : goal.loop-session-preserved
loop-session-preserved g c =
    let s = c.args.world.now.scenario in
    let w = c.args.world.now.world in
    let head = head_text s c.args.head.now in
    let l = c.loop-session in
    let k = l.session in
    let xs = l.notes.sessions.items in
    let olds = c.args.notes.now.sessions.items in
    let count = c.max-count.result in
    let step = c.print_session-progress in
    let less = c.loop-session-test.true in
    let one : count - k ≡ suc (count - (k + 1)) = omega (arith, less) in
    let few = c.max-count.ensures in
    let most = c.session_count-now.ensures.few in
    let noted_few = c.requires.count in
    let within : k < 16449 = omega (arith, less, few, most, noted_few) in
    let room = l.invariant.room in
    record {
      reported = λ old noted.
          sessions_next g.W.Write.contents s old w head k (count - k) (count - (k + 1)) c.args.out.now l.out step.new.out
          c.args.progress l.progress step.result _ one (l.invariant.reported old noted)
          (prints_text g.W.Write.contents l.out step.new.out l.progress step.result head _ _
          (ap (λ o. printed_change s k o w) (l.invariant.others k (omega arith)) ∙ change_noted g.W.Write.contents s old w k c.args.notes.now noted within)
          step.ensures.reported);
      noted = subst (λ ys. (j : ℕ) → j < k + 1 → IsReported s w j (get_or ys j None)) (sym step.ensures.sessions)
          (printed_more s w xs k step.ensures.seen (omega (arith, within, room)) step.ensures.is l.invariant.noted);
      others = λ j over. ap (λ ys. get_or ys j None) step.ensures.sessions ∙ others_more xs olds k step.ensures.seen l.invariant.others j over;
      room = ap length step.ensures.sessions ∙ length_set xs k step.ensures.seen ∙ room;
      accounts = step.ensures.accounts ∙ l.invariant.accounts;
    }

pub returns : goal.returns
returns g c old noted =
    let s = c.args.world.now.scenario in
    let w = c.args.world.now.world in
    let l = c.loop-session in
    let count = c.max-count.result in
    let over = c.loop-session-test.false in
    let end = l.auto.session-end in
    let none : count - l.session ≡ 0 = omega (arith, over) in
    let same : l.session ≡ count = omega (arith, over, end) in
    let new = c.session_count-now.ensures.count ∙ ap (λ m. length m.world.sessions) c.machine.ensures.is in
    let most = c.max-count.ensures in
    let few = c.session_count-now.ensures.few in
    let fewer = noted.few in
    let is : count ≡ max (length old.sessions) (length w.sessions) = omega (arith, c.max-count.ensures, new, noted.count) in
    let head = head_text s c.args.head.now in
    record {
      reported = subst (λ n. Reports g.W.Write.contents c.args.out.now l.out c.args.progress l.progress head (session_changes s.version (system s) old w 0 n))
          is
          (sessions_end g.W.Write.contents s old w (head_text s c.args.head.now) l.session (count - l.session) c.args.out.now l.out c.args.progress l.progress
          _ none (l.invariant.reported old noted));
      noted = sessions_all c.args.world.now c.args.notes.now _ c.session_count-now.result count new (omega (arith, most)) (omega (arith, most))
          (omega (arith, most, few, fewer)) noted.beyond (λ k less. l.invariant.noted k (omega (arith, less, same)))
          (λ k far. l.invariant.others k (omega (arith, far, same))) l.invariant.room refl;
      accounts = l.invariant.accounts;
    }
