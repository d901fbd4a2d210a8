-- A world is noted anew.
use Rattle.std.proofs.Common.{◌∙◌, ap, arith, get_or, length, map, refl, None}
use Rattle.gq_machine.specs.Machines.{Machine}
use Rattle.gq_traces.specs.declared.noted.PrintedState.{PrintedState}
use Rattle.gq_traces.specs.internal.Noted.{standing_in}
use Rattle.gq_traces.proofs.Renewed_trace_notes.{noted_all}
use Rattle.gq_traces.proofs.noted.PrintedState.renew.Goals as goal

pub returns : goal.returns
returns c =
    let old = c.args.self.now in
    let mid = c.renew_accounts.new.self in
    let new = c.renew_sessions.new.self in
    let now : PrintedState = record { accounts = new.accounts; sessions = new.sessions; count = c.session_count-count.result } in
    let most = c.max.ensures in
    let same = c.renew_accounts.ensures.count in
    let sessions = c.renew_accounts.ensures.sessions in
    let few = c.requires.can.few in
    let fewer = c.session_count-count.ensures.few in
    noted_all c.args.world.now old now c.session_count-count.result c.max.result
    (c.session_count-count.ensures.count ∙ ap (λ (m : Machine). length m.world.sessions) c.machine.ensures.is)
    (omega (arith, most)) (omega (arith, most, same)) (omega (arith, most, same, few, fewer)) c.requires.can.beyond c.renew_sessions.ensures.reported
    (λ k over. c.renew_sessions.ensures.others k over ∙ ap (λ (v : _). get_or v.items k None) sessions) c.renew_sessions.ensures.room refl
    (ap (λ (v : _). map standing_in v.items) c.renew_sessions.ensures.accounts ∙ c.renew_accounts.ensures.accounts)
