-- The slot of a session.
use Rattle.std.proofs.Common.{Some, None, option_map, ◌∙◌, ap, sym}
use Rattle.std.specs.Prelude.{get_or}
use Rattle.gq_trade.specs.Seen_sessions.{slot_id_seen}
use Rattle.gq_trade.specs.Trades.{Trades}
use Rattle.gq_machine.proofs.Machine_register_reads.{slot_id_read}
use Rattle.gq_machine.proofs.machine.Machine.slot_of.Goals as goal

pub returns-in-Some : goal.returns-in-Some
returns-in-Some c =
    ap (λ p. Some (slot_id_seen p)) c.stands_in.ensures
    ∙ slot_id_read c.self.inside c.args.self.now c.self.view_is c.self.invariant c.args.session (Some c.in-Some.found.now)
    (sym (ap (option_map (λ s. s.now)) c.in-Some.is) ∙ c.find_session.ensures ∙ ap (λ (v : Trades). get_or v.trading.sessions c.args.session None)
    c.trades.ensures)

pub returns-in-None : goal.returns-in-None
returns-in-None c =
    slot_id_read c.self.inside c.args.self.now c.self.view_is c.self.invariant c.args.session None
    (sym (ap (option_map (λ s. s.now)) c.in-None.is) ∙ c.find_session.ensures ∙ ap (λ (v : Trades). get_or v.trading.sessions c.args.session None)
    c.trades.ensures)
