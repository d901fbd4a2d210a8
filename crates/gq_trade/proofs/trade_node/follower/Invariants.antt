use Rattle.std.proofs.Common.{◌≡◌, drop}
use Rattle.gq_trade.specs.Leaf_ends.{follower, follower_from}
use Rattle.gq_trade.proofs.trade_node.follower.Given as goal

-- the node is among those that are left, or nowhere
abbrev pub invariant-loop-number : goal.invariant-loop-number
invariant-loop-number l = follower_from l.number l.node (drop l.number l.nodes) ≡ follower l.node l.nodes
