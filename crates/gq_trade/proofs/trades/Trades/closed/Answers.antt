use Rattle.gq_trade.proofs.Returnable_donation.{bytes_back, caps_back}
use Rattle.gq_trade.proofs.trades.Trades.closed.Goals as goal

pub part-requires-clause-enough : goal.part-requires-clause-enough
part-requires-clause-enough c =
    bytes_back c.args.self.now.trading c.free.new.self.trading c.args.session c.between-old.result c.between-old.ensures.is c.free.ensures.frees
    c.in_ok-can_return.ensures.enough

pub part-requires-clause-enough_caps : goal.part-requires-clause-enough_caps
part-requires-clause-enough_caps c =
    caps_back c.args.self.now.trading c.free.new.self.trading c.args.session c.between-old.result c.between-old.ensures.is c.free.ensures.frees
    c.between-old.ensures.parties.counted c.in_ok-can_return.ensures.enough_caps
