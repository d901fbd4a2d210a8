use Rattle.std.proofs.Common.{ap, ◌∙◌}
use Rattle.gq_trade.specs.Trading.{session_at}
use Rattle.gq_model.specs.machine.World as world
use Rattle.gq_statements.proofs.Reply_machine_world.{at_slot, called_is, replied_is}
use Rattle.gq_statements.proofs.client_replies.reply.Goals as goal

pub returns-clause-replied : goal.returns-clause-replied
returns-clause-replied c f d q g at h =
    let s = c.args.slots.now in
    let k = c.args.session in
    let is = c.session-slot_id.ensures ∙ ap (λ w. session_at w.trading k) c.trades.ensures in
    let puts = at_slot s c.mark.new.self k c.session-slot_id.result (world.Link k) is c.mark.ensures in
    replied_is f d s k q g at h c.requires.awaited.there c.mark.new.self puts

pub returns-clause-upgraded : goal.returns-clause-upgraded
returns-clause-upgraded c f d q level at h =
    let s = c.args.slots.now in
    let k = c.args.session in
    let is = c.session-slot_id.ensures ∙ ap (λ w. session_at w.trading k) c.trades.ensures in
    let puts = at_slot s c.mark.new.self k c.session-slot_id.result (world.Link k) is c.mark.ensures in
    replied_is f d s k q (λ operands. operands) at h c.requires.awaited.there c.mark.new.self puts

pub returns-clause-called : goal.returns-clause-called
returns-clause-called c f d q level a rest at e h =
    let s = c.args.slots.now in
    let k = c.args.session in
    let is = c.session-slot_id.ensures ∙ ap (λ w. session_at w.trading k) c.trades.ensures in
    let puts = at_slot s c.mark.new.self k c.session-slot_id.result (world.Link k) is c.mark.ensures in
    called_is f d s c.mark.new.self k q level a rest at e h c.requires.awaited.there puts
