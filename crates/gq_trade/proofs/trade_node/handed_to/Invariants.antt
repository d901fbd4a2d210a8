use Rattle.std.proofs.Common.{◌≡◌, ◌++◌, map, drop}
use Rattle.gq_trade.specs.Balances.{handed}
use Rattle.gq_trade.proofs.trade_node.handed_to.Given as goal

-- the amounts so far, with those of the nodes that are left, are all
abbrev pub invariant-loop-node : goal.invariant-loop-node
invariant-loop-node l = l.amounts.items ++ map handed (drop l.node-index l.nodes) ≡ map handed l.nodes
