-- The oldest request to a leaf.
use Rattle.gq_machine.proofs.Machine_session_reads.{no_oldest_read, oldest_read}
use Rattle.gq_machine.proofs.machine.Machine.oldest.Goals as goal

pub returns-in-Some : goal.returns-in-Some
returns-in-Some c =
    oldest_read c.self.inside c.args.self.now c.self.view_is c.self.invariant c.lawful.ensures c.trades-trades.result.now c.trades-trades.ensures c.args.leaf
    c.index.result c.index.ensures c.in-Some.request c.in-Some.ensures.some c.in-Some.ensures.its.0 c.asked_of.result c.asked_of.ensures.session
    c.asked_of.ensures.section

pub returns-in-None : goal.returns-in-None
returns-in-None c =
    no_oldest_read c.self.inside c.args.self.now c.self.view_is c.self.invariant c.lawful.ensures c.trades-trades.result.now c.trades-trades.ensures c.args.leaf
    c.index.result c.index.ensures c.in-None.ensures.none
