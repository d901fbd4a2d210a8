-- What is reported of a session.
use Rattle.std.proofs.Common.{ap, option_map, refl, sym, ◌∙◌}
use Rattle.gq_machine.proofs.Machine_session_reads.{no_session_read, session_read}
use Rattle.gq_machine.proofs.machine.Machine.session.Goals as goal

pub returns-in-Some-clause-some : goal.returns-in-Some-clause-some
returns-in-Some-clause-some c =
    session_read c.self.inside c.args.self.now c.self.view_is c.self.invariant c.lawful.ensures c.trades.result.now c.trades.ensures c.args.session
    _ c.in-Some.found.now (sym (ap (option_map (λ s. s.now)) c.in-Some.is) ∙ c.find_session.ensures) refl c.state_of.result c.state_of.ensures

pub returns-in-None-clause-none : goal.returns-in-None-clause-none
returns-in-None-clause-none c =
    no_session_read c.self.inside c.args.self.now c.self.view_is c.self.invariant c.lawful.ensures c.trades.result.now c.trades.ensures c.args.session
    _ (sym (ap (option_map (λ s. s.now)) c.in-None.is) ∙ c.find_session.ensures) refl
