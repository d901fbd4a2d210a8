use Rattle.std.proofs.Common.{subst}
use Rattle.gq_trade.specs.Trading.{IsTrading}
use Rattle.gq_trade.specs.Trades.{Trades}
use Rattle.gq_slots.specs.Slots.{content_at}
use Rattle.gq_slots.proofs.Addresses_places.{place_is, place_read}
use Rattle.gq_slots.proofs.slot_addresses.Addresses.laws.Goals as goal

pub returns-clause-there : goal.returns-clause-there
returns-clause-there c p i = place_is c.args.self.now c.args.slots.now (content_at c.args.slots.now p) p i

pub returns-clause-world : goal.returns-clause-world
returns-clause-world c f system p i a =
    place_read f system c.args.self.now c.args.slots.now p (subst (λ (y : Trades). IsTrading y.trading) c.trades.ensures c.laws-2.ensures.trading)
    (c.laws.ensures.reads f p i) a
