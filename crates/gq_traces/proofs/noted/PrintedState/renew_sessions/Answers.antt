-- The sessions, one after the other.
use Rattle.std.proofs.Common.{◌∙◌, arith, subst}
use Rattle.gq_machine.specs.Machines.{Machine}
use Rattle.gq_traces.specs.internal.Noted.{IsReported}
use Rattle.gq_traces.proofs.Renewed_trace_notes.{length_set, others_more, printed_more}
use Rattle.gq_traces.proofs.noted.PrintedState.renew_sessions.Goals as goal

pub loop-session-preserved : goal.loop-session-preserved
loop-session-preserved c =
    let l = c.loop-session in
    let w = c.args.world.now in
    let xs = l.self.sessions.items in
    let y = c.printed_session.result in
    let less = c.loop-session-test.true in
    let few = c.requires.few in
    let long = l.invariant.room in
    let reported = subst (λ (m : Machine). IsReported m.scenario m.world l.session y) c.machine.ensures.is c.printed_session.ensures in
    record {
      reported = printed_more w.scenario w.world xs l.session y (omega (arith, less, few, long)) reported l.invariant.reported;
      others = others_more xs c.args.self.now.sessions.items l.session y l.invariant.others;
      room = length_set xs l.session y ∙ long;
      accounts = l.invariant.accounts;
      count = l.invariant.count;
    }
