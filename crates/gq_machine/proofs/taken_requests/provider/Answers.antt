-- What a leaf knows of its program and of its service.
use Rattle.std.proofs.Common.{ap, ◌∙◌}
use Rattle.gq_model.proofs.Small_facts.{get_within}
use Rattle.gq_trade.specs.Trading.{session_at}
use Rattle.gq_trade.specs.declared.session.Session.{Session}
use Rattle.gq_trade.specs.Trades.{Trades}
use Rattle.gq_machine.proofs.Prepared_service_facts.{prepared_there, sections_reported, service_there}
use Rattle.gq_machine.proofs.Stepping_leaf_facts.{item_there}
use Rattle.gq_machine.proofs.taken_requests.provider.Goals as goal

pub object-requires : goal.object-requires
object-requires c =
    service_there c.args.fixed.now c.args.state.now c.requires.holds c.lawful.ensures c.args.session c.requires.session c.session-service.result.service
    (ap (λ (q : Session). q.service) (c.session-service.ensures
    ∙ ap (λ (w : Trades). session_at w.trading c.args.session) c.trades.ensures))

pub returns-clause-sections : goal.returns-clause-sections
returns-clause-sections c =
    let f = c.args.fixed.now in
    let p = get_within f.prepared.items c.args.number (prepared_there f c.args.state.now c.requires.holds c.args.number c.requires.number) in
    sections_reported f c.args.state.now c.requires.holds c.args.number c.requires.number c.index.result.now
    (item_there f.prepared.items c.args.number p.0 c.index.result.now p.1 c.index.ensures)
