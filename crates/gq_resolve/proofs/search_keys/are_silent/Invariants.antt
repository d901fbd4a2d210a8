use Rattle.std.proofs.Common.{◌≡◌, drop}
use Rattle.gq_scenario.specs.Component_trees.{nodes_of}
use Rattle.gq_resolve.specs.internal.Search_keys.{are_silent}
use Rattle.gq_resolve.proofs.search_keys.are_silent.Given as goal

abbrev pub invariant-loop-node : goal.invariant-loop-node
invariant-loop-node l = are_silent (nodes_of l.node-items) ≡ are_silent (nodes_of (drop l.node-index l.node-items))
