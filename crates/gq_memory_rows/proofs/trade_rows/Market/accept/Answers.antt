use Rattle.gq_memory_rows.proofs.Market_invariant.{opened_one}
use Rattle.gq_memory_rows.proofs.trade_rows.Market.accept.Goals as goal

pub returns-clause-one : goal.returns-clause-one
returns-clause-one c =
    opened_one c.args.self.now.trades c.accept.new.self c.in_ok-accept.field-0 c.new-heap.result c.new-heap.ensures.keeps c.requires.asked
    c.in_ok-accept.ensures.none c.in_ok-accept.ensures.some
