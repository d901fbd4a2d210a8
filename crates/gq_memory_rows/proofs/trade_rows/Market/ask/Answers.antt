use Rattle.gq_memory_rows.proofs.Market_invariant.{asked_one, on_ok}
use Rattle.gq_memory_rows.proofs.trade_rows.Market.ask.Goals as goal

pub returns-clause-asked : goal.returns-clause-asked
returns-clause-asked c =
    on_ok c.ask.result (asked_one c.args.self.now.trades c.ask.new.self c.args.donation c.requires.quiet) c.ask.ensures.asked
