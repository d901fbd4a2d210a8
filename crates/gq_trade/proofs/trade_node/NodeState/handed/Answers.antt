use Rattle.std.proofs.Common.{rules}
use Rattle.gq_trade.proofs.trade_node.NodeState.handed.Goals as goal

pub returns-in-Pending : goal.returns-in-Pending
returns-in-Pending c = search rules
