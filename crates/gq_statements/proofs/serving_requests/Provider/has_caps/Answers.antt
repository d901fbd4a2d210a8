use Rattle.gq_statements.proofs.Live_account_open.{live_open}
use Rattle.gq_statements.proofs.serving_requests.Provider.has_caps.Goals as goal

pub avail-avail-requires : goal.avail-avail-requires
avail-avail-requires c =
    live_open c.args.trades.now c.args.server c.accounts.result.now c.leaf_account.result c.laws.ensures.trades c.laws.ensures.trading c.requires.live
    c.accounts.ensures c.leaf_account.ensures
