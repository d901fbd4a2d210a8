-- What the fields of `Trades` stand for.
use Rattle.gq_trade.specs.declared.trades.Trades.TheInside.{Inside}
use Rattle.gq_trade.specs.internal.Trades_fields.{trades_of}
use Rattle.gq_trade.specs.Trades.{Trades}

abbrev pub here : Inside → Trades
here i = trades_of i.accounts i.tree i.leaves.items i.objects.items i.sessions i.requests i.nodes.items
