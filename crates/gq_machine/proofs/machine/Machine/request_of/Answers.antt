-- The request of a session.
use Rattle.gq_machine.proofs.Machine_session_reads.{no_request_read, request_read, request_taken}
use Rattle.gq_machine.proofs.machine.Machine.request_of.Goals as goal

pub asked_of-requires-clause-there : goal.asked_of-requires-clause-there
asked_of-requires-clause-there c =
    request_taken c.self.inside c.args.self.now c.self.view_is c.self.invariant c.lawful.ensures c.trades-trades.result.now c.trades-trades.ensures
    c.args.session
    c.request_of.result c.in-Some.request c.request_of.ensures c.in-Some.is

pub returns-in-Some : goal.returns-in-Some
returns-in-Some c =
    request_read c.self.inside c.args.self.now c.self.view_is c.self.invariant c.lawful.ensures c.trades-trades.result.now c.trades-trades.ensures
    c.args.session
    c.request_of.result c.in-Some.request c.request_of.ensures c.in-Some.is c.asked_of.result c.asked_of.ensures.session c.asked_of.ensures.section

pub returns-in-None : goal.returns-in-None
returns-in-None c =
    no_request_read c.self.inside c.args.self.now c.self.view_is c.self.invariant c.lawful.ensures c.trades-trades.result.now c.trades-trades.ensures
    c.args.session
    c.request_of.result c.request_of.ensures c.in-None.is
